-- The queues that bytes are. Assumes nothing.
use Rattle.std.proofs.Common.{◌≡◌, ℕ, zero, suc, ◌+◌, ◌*◌, ◌/◌, ◌%◌, ◌≤◌, ◌<◌, Bool, true, false, List, [], length, get_or, take, drop, leb, eqb, refl, sym, ap, ◌∙◌, arith}
use Rattle.std.specs.Simd.{first_chunks}
use Rattle.std.proofs.Math.Seq.{drop-drop, length-take-le}
use borrow.Author.Tests.{leb-true, eqb-true, eq-eqb, ne_eqb, le-leb, lt-leb}
use lib.Seq.{get_or-take}
use Rattle.certificate.specs.Octets.{◌also◌}
use Rattle.certificate.specs.Layout.{max_links}
use Rattle.certificate.proofs.Tests.{also_both, both_also}
use Rattle.octets.specs.Tables.{table_of}
use Rattle.octets.proofs.FilledTables.{Filled, table_is, table_length, table_at}
use Rattle.packed_state.specs.State.{quad_at}
use Rattle.packed_state.proofs.Octets.{byte_in}
use Rattle.answer_words.specs.Words.{queue_size, has_queues, queues_in}
use Rattle.answer_words.specs.Laws.{QueuesAre}

-- bytes that are queues, and bytes that are not
module _ (b : List ℕ) where
  abbrev quads : ℕ → ℕ
  quads l = quad_at b (queue_size * l)

  pub no_queues : has_queues b ≡ false → queues_in b ≡ []
  unfolding queues_in
  no_queues e = rw e

  pub too_many : queue_size * max_links < length b → has_queues b ≡ false
  unfolding has_queues ◌also◌
  too_many h = rw (lt-leb _ _ h) (go (eqb (length b % queue_size) 0))
    where
      go : (t : Bool) → (t also false) ≡ false
      go true = refl
      go false = refl

  pub not-whole : (length b % queue_size ≡ 0 → ⊥) → has_queues b ≡ false
  unfolding has_queues ◌also◌
  not-whole h = rw (ne_eqb _ _ h)

  pub some_queues : length b % queue_size ≡ 0 → length b ≤ queue_size * max_links → queues_in b ≡ table_of (length b / queue_size) quads
  unfolding queues_in has_queues
  some_queues whole most = rw (both_also _ _ (eq-eqb _ _ whole) (le-leb _ _ most))

  -- as the code reads them, into the front of a table
  pub queues_read : (of : List ℕ) (count : ℕ) → count ≡ length b / queue_size → length b % queue_size ≡ 0 → length b ≤ queue_size * max_links
      → Filled max_links count quads of → take count of ≡ queues_in b
  queues_read of count e whole most (size, at) =
      let fits : count ≤ length of = omega arith in
      let read : take count of ≡ table_of count quads = table_is count quads (take count of) (length-take-le count of fits) (λ k lt. get_or-take count of k 0 lt ∙ at k lt) in
      read ∙ ap (λ (n : ℕ). table_of n quads) e ∙ sym (some_queues whole most)

-- four bytes, as the library cuts them and reads them
chunk_at : (count l : ℕ) (b : List ℕ) → l < count → get_or (first_chunks 4 count b) l [] ≡ take 4 (drop (4 * l) b)
chunk_at zero l b lt = absurd (omega arith)
chunk_at (suc n) zero b lt = refl
chunk_at (suc n) (suc l) b lt =
    let next : 4 + 4 * l ≡ 4 * suc l = omega arith in
    chunk_at n l (drop 4 b) (omega arith) ∙ rw (drop-drop, next)

pub quad_is : (b quad : List ℕ) (count l x : ℕ) → l < count → quad ≡ get_or (first_chunks 4 count b) l []
    → x ≡ get_or quad 0 0 * 16777216 + get_or quad 1 0 * 65536 + get_or quad 2 0 * 256 + get_or quad 3 0 → x ≡ quads b l
unfolding quad_at
quad_is b quad count l x lt is e =
    let at = byte_in b quad (4 * l) 4 (is ∙ chunk_at count l b lt) in
    omega (
      arith,
      e,
      at 0 (4 * l) (omega arith) (omega arith),
      at 1 (4 * l + 1) (omega arith) (omega arith),
      at 2 (4 * l + 2) (omega arith) (omega arith),
      at 3 (4 * l + 2 + 1) (omega arith) (omega arith),
    )

pub queues_are : QueuesAre
queues_are b n most size =
    let count : length b / queue_size ≡ n = omega arith in
    let are : queues_in b ≡ table_of n (quads b) = some_queues b (omega arith) (omega arith) ∙ ap (λ (k : ℕ). table_of k (quads b)) count in
    rw are (table_length (quads b) n 0, λ l lt. table_at (quads b) n 0 l lt ∙ ap (quads b) (omega arith))

-- where there are queues, there are four bytes each
pub queues_count : (b : List ℕ) (n : ℕ) → 1 ≤ n → length (queues_in b) ≡ n → length b ≡ queue_size * n
unfolding has_queues
queues_count b n some count = go (has_queues b) refl
  where
    both : has_queues b ≡ true → (eqb (length b % queue_size) 0 ≡ true) × (leb (length b) (queue_size * max_links) ≡ true)
    both e = also_both _ _ e

    go : (t : Bool) → has_queues b ≡ t → length b ≡ queue_size * n
    go true e =
        let has = both e in
        let whole : length b % queue_size ≡ 0 = eqb-true _ _ has.0 in
        let size : length (queues_in b) ≡ length b / queue_size = ap length (some_queues b whole (leb-true _ _ has.1)) ∙ table_length (quads b) (length b / queue_size) 0 in
        omega arith
    go false e = let none : length (queues_in b) ≡ 0 = ap length (no_queues b e) in absurd (omega arith)
