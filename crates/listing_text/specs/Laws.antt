-- What is proved of the text of a listing (proofs/ of this crate): statements, and the terms in which they speak.
use Rattle.std.specs.Prelude.{ℕ, suc, ◌+◌, ◌*◌, ◌-◌, ◌^◌, ◌≤◌, ◌<◌, List, [], ◌∷◌, ◌++◌, ◌↔◌, ◌≡◌, length, get_or, take, drop}
use Prim.Native.Char.{code}
use Prim.Native.String as text
use Rattle.certificate.specs.declared.Report.{Report}
use Rattle.certificate.specs.Checks.{report_with}
use Rattle.certificate.specs.Layout.{max_entries, max_length, links_of, turns_of, signals_of, modes_of, boxes_of, entries_of, cell_of, mode_of, signal_of, next_mode_of, rank_of}
use Rattle.judging.specs.Verdict.{verdict_of}
use Rattle.judging.specs.Overflow.{overflows_of}
use Rattle.listing_text.specs.Text.{decimal}
use Rattle.listing_text.specs.Lines.{counts_line, entry_line, entry_lines, accepted_line, refused_line}
use Rattle.listing_text.specs.Listing.{listing_of, send_report, send_buffer, Sent, list_report, list_buffer}

-- a numeral read from the left, where n was read before it: each digit adds its value to ten times what was read so far
unfoldable pub read_on : ℕ → List ℕ → ℕ
read_on n [] = n
read_on n (d ∷ ds) = read_on (10 * n + (d - 0x30)) ds

-- the number that a reader takes a numeral for
abbrev pub value_of : List ℕ → ℕ
value_of ds = read_on 0 ds

-- ds is n in decimal: ASCII digits, at least one, that are read as n; only 0 itself begins with a zero
pub record Numeral (n : ℕ) (ds : List ℕ) : Type 0 where
  pub value : value_of ds ≡ n
  pub some : 1 ≤ length ds
  pub ascii : (i : ℕ) → i < length ds → (0x30 ≤ get_or ds i 0) × (get_or ds i 0 ≤ 0x39)
  pub no_leading_zero : get_or ds 0 0 ≡ 0x30 → ds ≡ 0x30 ∷ []

-- a number of at most ten digits is shown in decimal
abbrev pub DecimalIsNumeral : Type 0
DecimalIsNumeral = (n : ℕ) → n < 10 ^ 10 → Numeral n (decimal n)

-- and a number below 10 to the k + 1 in at most k + 1 digits
abbrev pub DecimalShort : Type 0
DecimalShort = (k n : ℕ) → n < 10 ^ suc k → length (decimal n) ≤ suc k

-- any number is shown in at most ten digits
abbrev pub DecimalFits : Type 0
DecimalFits = (n : ℕ) → length (decimal n) ≤ 10

-- the bytes of a quoted text, which is ASCII
unfoldable pub bytes_of : text.String → List ℕ
bytes_of text.[] = []
bytes_of (text.◌∷◌ c s) = code c ∷ bytes_of s

-- the lines as quoted text with numbers in decimal between; each ends with a line feed, 0A
pub record Worded (s : List ℕ) : Type 0 where
  pub counts : counts_line s ≡
      bytes_of "links " ++ (decimal (links_of s) ++ (bytes_of " turns " ++ (decimal (turns_of s) ++ (bytes_of " signals " ++ (decimal (signals_of s)
      ++ (bytes_of " modes " ++ (decimal (modes_of s) ++ (bytes_of " arrivals " ++ (decimal (boxes_of s) ++ (bytes_of " entries " ++ (decimal (entries_of s)
      ++ (0x0A ∷ []))))))))))))
  pub entry : (e : ℕ) → entry_line s e ≡
      decimal (cell_of s e) ++ (bytes_of " " ++ (decimal (mode_of s e) ++ (bytes_of " " ++ (decimal (signal_of s e) ++ (bytes_of " " ++ (decimal (next_mode_of s e)
      ++ (bytes_of " " ++ (decimal (rank_of s e) ++ (0x0A ∷ [])))))))))
  pub accepted : (r : Report) (n : ℕ) → accepted_line r n ≡ bytes_of "accepted " ++ (decimal r.count ++ (bytes_of " " ++ (decimal n ++ (0x0A ∷ []))))
  pub refused : (r : Report) → refused_line r ≡
      bytes_of "refused " ++ (decimal r.number ++ (bytes_of " " ++ (decimal r.a ++ (bytes_of " " ++ (decimal r.b ++ (bytes_of " " ++ (decimal r.count
      ++ (0x0A ∷ []))))))))

abbrev pub LinesWorded : Type 0
LinesWorded = (s : List ℕ) → Worded s

-- the whole: of an accepted certificate the counts, the entries in order, and the acceptance with its two numbers; of any other the refusal alone
pub record Listed (s : List ℕ) : Type 0 where
  pub none : entry_lines s 0 ≡ []
  pub more : (n : ℕ) → entry_lines s (suc n) ≡ entry_lines s n ++ entry_line s n
  pub accepted : (verdict_of s).number ≡ 0
      → listing_of s ≡ counts_line s ++ (entry_lines s (entries_of s) ++ accepted_line (verdict_of s) (overflows_of s))
  pub refused : ((verdict_of s).number ≡ 0 → ⊥) → listing_of s ≡ refused_line (verdict_of s)

abbrev pub ListingIs : Type 0
ListingIs = (s : List ℕ) → Listed s

-- a text that goes to a lent buffer: 17 exactly if it is longer, and then every byte stays; else A is its length, and it stands at the front
pub record Sends (words buffer : List ℕ) : Type 0 where
  pub short : ((send_report words buffer).number ≡ 17) ↔ (length buffer < length words)
  pub kept : length buffer < length words → send_buffer words buffer ≡ buffer
  pub done : length words ≤ length buffer → send_report words buffer ≡ report_with 0 (length words) 0 0
  pub put : length words ≤ length buffer → send_buffer words buffer ≡ words ++ drop (length words) buffer

abbrev pub SendIsPlain : Type 0
SendIsPlain = (words buffer : List ℕ) → Sends words buffer

-- the call that lists sends the listing
abbrev pub ListCalls : Type 0
ListCalls = (s buffer : List ℕ) → Sent (listing_of s) buffer (list_buffer s buffer) (list_report s buffer)

-- The most bytes of each line: those of its words, spaces and line feed, and the digits of its numbers.
-- links, turns, signals, modes, arrival boxes, entries
abbrev pub max_counts_line : ℕ
max_counts_line = 49 + (1 + 2 + 2 + 1 + 1 + 4)

-- cell, mode, signal, next mode, rank (any value, so ten digits)
abbrev pub max_entry_line : ℕ
max_entry_line = 5 + (4 + 1 + 2 + 1 + 10)

-- the count, and how many entries may turn arrivals away
abbrev pub max_accepted_line : ℕ
max_accepted_line = 11 + (10 + 4)

-- the most bytes of a listing: 94,293
abbrev pub max_listing : ℕ
max_listing = max_counts_line + max_entry_line * max_entries + max_accepted_line

-- no listing is longer, whatever is listed
abbrev pub ListingFits : Type 0
ListingFits = (s : List ℕ) → length (listing_of s) ≤ max_listing

-- so a call that lists into a buffer of that length is not refused, and leaves the whole listing in its front
pub record ListedWhole (s after : List ℕ) (answer : Report) : Type 0 where
  pub number : answer.number ≡ 0
  pub place : answer.a ≡ length (listing_of s)
  pub text : take answer.a after ≡ listing_of s

abbrev pub ListingSent : Type 0
ListingSent =
    (s buffer after : List ℕ) (answer : Report) → max_listing ≤ length buffer → Sent (listing_of s) buffer after answer → ListedWhole s after answer

-- the listing of a byte string is that of its first (greatest length + 1) bytes
abbrev pub ListingOfLong : Type 0
ListingOfLong = (s : List ℕ) → listing_of s ≡ listing_of (take (max_length + 1) s)
