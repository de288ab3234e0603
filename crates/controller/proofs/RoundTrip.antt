-- What is written of a certificate that was loaded, in any mode, so after any queries, is that certificate, and loads again. Assumes nothing.
use Prim.Native.Nat.{ℕ, ◌+◌, ◌≤◌}
use mathlib.Core.List.{List, [], ◌∷◌, ◌++◌}
use mathlib.Core.Path.{◌≡◌, refl, ap, ◌∙◌}
use native.Mathlib.Omega.{arith}
use lib.ListN.{length, take, drop}
use lib.Seq.{length-take-le, take_at, drop_at}
use Rattle.certificate.specs.declared.Report.{Report}
use Rattle.judging.specs.Verdict.{verdict_of}
use Rattle.controller.specs.declared.Controller.{Controller}
use Rattle.controller.specs.declared.Loaded.{Loaded}
use Rattle.controller.specs.State.{holding, in_mode, load_of}
use Rattle.controller.specs.Query.{query_of}
use Rattle.controller.specs.Write.{write_report, write_buffer}
use Rattle.controller.specs.Laws.{Query, after_queries, QueriesKeep, WritesBack, RoundTrip, RoundTripWrites}
use Rattle.controller.proofs.Holding.{holds_in_mode, accepted_holds, load_accepted}
use Rattle.controller.proofs.Lookups.{query_keeps}
use Rattle.controller.proofs.Writings.{write_succeeds, write_done}

pub queries_keep : QueriesKeep
unfolding after_queries
queries_keep c [] = refl
queries_keep c (q ∷ qs) =
    let next = (query_of c q.queues q.scale).state in
    queries_keep next qs ∙ ap (λ (d : Controller). in_mode d (after_queries next qs).mode) (query_keeps c q.queues q.scale)

-- the part from start on, where p stands between what was before it and the rest
part_at : (p rest buffer : List ℕ) (start : ℕ) → start ≤ length buffer → take (length p) (drop start (take start buffer ++ (p ++ rest))) ≡ p
part_at p rest buffer start h = rw (drop_at (take start buffer) (p ++ rest) start (length-take-le start buffer h)) (take_at p rest (length p) refl)

-- the loaded state in any mode
module _ (s : List ℕ) (m : ℕ) where
  -- what it writes is s, and loads again from any state d
  pub writes_back : (d : Controller) (buffer : List ℕ) (start : ℕ) → (verdict_of s).number ≡ 0
      → (write_report (in_mode (holding s) m) buffer start).number ≡ 0 → WritesBack s (in_mode (holding s) m) d buffer start
  writes_back d buffer start ok written =
      let w = in_mode (holding s) m in
      let done = write_done w buffer start written in
      let room : start ≤ length buffer = omega (arith, ((write_succeeds w buffer start).0 written).1) in
      let front : take (length s) (drop start (write_buffer w buffer start)) ≡ s =
      rw (done.1, (accepted_holds s ok).1) (part_at s _ buffer start room) in
      record { size = ap (λ (r : Report). r.a) done.0; bytes = front; again = rw front (load_accepted d s ok) }

  -- it writes wherever there is room for s
  pub writes_again : (buffer : List ℕ) (start : ℕ) → (verdict_of s).number ≡ 0 → start + length s ≤ length buffer
      → (write_report (in_mode (holding s) m) buffer start).number ≡ 0
  writes_again buffer start ok room = (write_succeeds (in_mode (holding s) m) buffer start).1 (holds_in_mode (holding s) m (accepted_holds s ok).0, room)

-- the state that loaded s, and then answered queries
abbrev after : Controller → List ℕ → List Query → Controller
after c s qs = after_queries (load_of c s).state qs

-- it is the loaded state in some mode
kept : (c : Controller) (s : List ℕ) (qs : List Query) → (verdict_of s).number ≡ 0 → after c s qs ≡ in_mode (holding s) (after c s qs).mode
kept c s qs ok =
    let loaded : (load_of c s).state ≡ holding s = ap (λ (l : Loaded). l.state) (load_accepted c s ok) in
    rw loaded (queries_keep (holding s) qs)

pub round_trip : RoundTrip
round_trip c d s qs buffer start ok written =
    let same = kept c s qs ok in
    rw same (writes_back s _ d buffer start ok (rw same at written))

pub round_trip_writes : RoundTripWrites
round_trip_writes c s qs buffer start ok room =
    rw (kept c s qs ok) (writes_again s (after c s qs).mode buffer start ok room)
