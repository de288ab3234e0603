-- Looking up the entry for given queues: 16, then 19.
use Rattle.std.specs.Prelude.{ℕ, ◌*◌, ◌≤◌, ◌<◌, List, Bool, length, get_or, leb, eqb, ◌≡◌}
use Rattle.certificate.specs.declared.Report.{Report}
use Rattle.certificate.specs.Octets.{◌also◌}
use Rattle.certificate.specs.Loops.{every}
use Rattle.certificate.specs.Checks.{refusal, fine, need}
use Rattle.certificate.specs.Layout.{max_scale, links_of, cap_of}
use Rattle.grid.specs.Cells.{cell_at}
use Rattle.judging.specs.Lookup.{is_listed}

-- a query's queue of link l, a whole number over the scale
abbrev pub queue_at : List ℕ → ℕ → ℕ
queue_at queues l = get_or queues l 0

-- scale 1 to 100,000, as many queues as links, no queue above cap × scale (refusal 16 where not)
unfoldable pub is_proper : List ℕ → List ℕ → ℕ → Bool
is_proper s queues scale =
    leb 1 scale also leb scale max_scale
    also eqb (length queues) (links_of s)
    also every (links_of s) (λ l. leb (queue_at queues l) (cap_of s l * scale))

-- the queues' cell
abbrev pub cell_asked : List ℕ → List ℕ → ℕ → ℕ
cell_asked s queues scale = cell_at s scale (queue_at queues)

-- 19: no entry for cell d in the mode
unfoldable pub cell_fault : List ℕ → ℕ → ℕ → Report
cell_fault s mode d = need (is_listed s d mode) (refusal 19 0) fine

-- 16, then 19 for the queues' cell in the current mode
unfoldable pub lookup_fault : List ℕ → ℕ → List ℕ → ℕ → Report
lookup_fault s mode queues scale =
    need (is_proper s queues scale) (refusal 16 0) (cell_fault s mode (cell_asked s queues scale))

-- what 16 asks: scale 1 to 100,000, as many queues as links, no queue above cap × scale
pub record Proper (s queues : List ℕ) (scale : ℕ) : Type 0 where
  pub scale_least : 1 ≤ scale
  pub scale_most : scale ≤ max_scale
  pub number : length queues ≡ links_of s
  pub queue_most : (l : ℕ) → l < links_of s → queue_at queues l ≤ cap_of s l * scale
