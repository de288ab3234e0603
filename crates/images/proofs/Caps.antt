-- No queue within the caps exceeds 10,000. Assumes nothing.
use Rattle.std.proofs.Common.{ℕ, ◌≤◌, ◌<◌, List, arith}
use Rattle.certificate.specs.Layout.{links_of}
use Rattle.certificate.specs.Facts.{Readable}
use Rattle.supply.specs.declared.QueueBox.{QueueBox}
use Rattle.supply.specs.Supply.{at, WithinCaps}

module _ {s : List ℕ} {queues : QueueBox} (R : Readable s) (W : WithinCaps s queues) (l : ℕ) (h : l < links_of s) where
  pub lower_most : at queues.lower l ≤ 10000
  lower_most = omega (arith, W.lower_fits l h, R.link l h)

  pub upper_most : at queues.upper l ≤ 10000
  upper_most = omega (arith, W.upper_fits l h, R.link l h)
