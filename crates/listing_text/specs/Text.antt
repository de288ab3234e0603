-- Numbers and words as ASCII text.
use Rattle.std.specs.Prelude.{ℕ, zero, suc, ◌+◌, ◌/◌, ◌%◌, List, [], ◌∷◌, ◌++◌, cond, ltb}

-- the last digits of n, at most k of them, with no leading zero
unfoldable pub digits : ℕ → ℕ → List ℕ
digits zero n = []
digits (suc k) n = cond (ltb n 10) ((48 + n) ∷ []) (digits k (n / 10) ++ ((48 + n % 10) ∷ []))

-- n in decimal; ten digits hold every number of a result
abbrev pub decimal : ℕ → List ℕ
decimal n = digits 10 n

abbrev pub space : List ℕ
space = 0x20 ∷ []

-- every line ends with a line feed
abbrev pub line_feed : List ℕ
line_feed = 0x0a ∷ []

-- a word, then a number; fields stand one space apart
abbrev pub field : List ℕ → ℕ → List ℕ
field word n = word ++ (space ++ decimal n)

abbrev pub links_word : List ℕ
links_word = 0x6c ∷ 0x69 ∷ 0x6e ∷ 0x6b ∷ 0x73 ∷ []

abbrev pub turns_word : List ℕ
turns_word = 0x74 ∷ 0x75 ∷ 0x72 ∷ 0x6e ∷ 0x73 ∷ []

abbrev pub signals_word : List ℕ
signals_word = 0x73 ∷ 0x69 ∷ 0x67 ∷ 0x6e ∷ 0x61 ∷ 0x6c ∷ 0x73 ∷ []

abbrev pub modes_word : List ℕ
modes_word = 0x6d ∷ 0x6f ∷ 0x64 ∷ 0x65 ∷ 0x73 ∷ []

abbrev pub arrivals_word : List ℕ
arrivals_word = 0x61 ∷ 0x72 ∷ 0x72 ∷ 0x69 ∷ 0x76 ∷ 0x61 ∷ 0x6c ∷ 0x73 ∷ []

abbrev pub entries_word : List ℕ
entries_word = 0x65 ∷ 0x6e ∷ 0x74 ∷ 0x72 ∷ 0x69 ∷ 0x65 ∷ 0x73 ∷ []

abbrev pub accepted_word : List ℕ
accepted_word = 0x61 ∷ 0x63 ∷ 0x63 ∷ 0x65 ∷ 0x70 ∷ 0x74 ∷ 0x65 ∷ 0x64 ∷ []

abbrev pub refused_word : List ℕ
refused_word = 0x72 ∷ 0x65 ∷ 0x66 ∷ 0x75 ∷ 0x73 ∷ 0x65 ∷ 0x64 ∷ []
