-- Where the grid records stand and how many cells they make, as reading finds it link by link. Assumes nothing.
use Prim.Native.Nat.{ℕ, zero, suc, ◌+◌, ◌*◌, ◌≤◌, ◌<◌}
use mathlib.Core.List.{List}
use mathlib.Core.Logic.{⊎_elim}
use mathlib.Core.Path.{◌≡◌, refl, sym, ap, ◌∙◌}
use native.Mathlib.Nat.{eq-or-lt_of_le, one-le-mul}
use native.Mathlib.Numerals.{add-one}
use native.Mathlib.Omega.{arith}
use lib.ListN.{length, get_or, set, replicate, length-set}
use lib.Seq.{get_or-set_same, get_or-set_other}
use Rattle.certificate.specs.declared.Report.{Report}
use Rattle.certificate.specs.Checks.{fine}
use Rattle.certificate.specs.Layout.{max_links, grid_start, count_at, grid_at, product_of}
use Rattle.certificate.specs.Records.{grid_fault}
use Rattle.box_records.specs.GridRecords.{GridsLaid}
use Rattle.certificate.proofs.Records.{grid_says}

-- what stands in a table of zeros, and past its end
zeros : (n l : ℕ) → get_or {A = ℕ} (replicate n 0) l 0 ≡ 0
zeros zero l = refl
zeros (suc n) zero = refl
zeros (suc n) (suc l) = zeros n l

module _ (s : List ℕ) where
  pub laid_none : {start : ℕ} → start ≡ grid_start s → start ≤ 50000 → GridsLaid s 0 (replicate max_links 0) start 1
  unfolding grid_at product_of
  laid_none e h =
      record {
        sized = refl;
        place = λ l lt. absurd (omega arith);
        no_place = λ l _. zeros max_links l;
        end_is = e;
        end_most = omega arith;
        cells_are = refl;
        cells_least = omega arith;
        cells_most = omega arith;
      }

  -- the record of link l passes: it stands at `at`, and its count joins the product
  pub laid_next : {l at cells count : ℕ} {places : List ℕ} → GridsLaid s l places at cells → l < max_links → count ≡ count_at s at → fine ≡ grid_fault s l
      → GridsLaid s (l + 1) (set places l at) (at + (1 + 2 * count)) (cells * count)
  unfolding grid_at product_of
  laid_next {l} {at} {cells} {count} {places} L room many e =
      let G = ((grid_says s l).0 (ap (λ (r : Report). r.number) (sym e))).1 in
      let same : count ≡ count_at s (grid_at s l) = many ∙ rw L.end_is in
      let inside : l < length places = omega (arith, L.sized) in
      record {
        sized = length-set places l at ∙ L.sized;
        place = λ k lt.
            ⊎_elim
            (λ (q : k ≡ l). rw (q, get_or-set_same places l at 0 inside) L.end_is)
            (λ b. get_or-set_other places l k at 0 (omega arith) ∙ L.place k b)
            (eq-or-lt_of_le (let b : k ≤ l = omega arith in b));
        no_place = λ k after. get_or-set_other places l k at 0 (omega arith) ∙ L.no_place k (omega arith);
        end_is = rw (add-one, same, L.end_is);
        end_most = omega (arith, G.count_most, L.end_most);
        cells_are = rw (add-one, same, L.cells_are);
        cells_least = one-le-mul L.cells_least (rw same G.count_least);
        cells_most = rw (same, L.cells_are) G.product_most;
      }
