-- `reading::records::Starts::lay_out` meets its contract.
use Rattle.std.proofs.Common.{arith, ◌∙◌}
use Rattle.certificate.specs.Layout.{arrivals_start}
use Rattle.reading.proofs.Stages.{laid_out, header_facts}
use Rattle.reading.proofs.records.Starts.lay_out.Goals as goal

pub invariant_of-arrivals : goal.invariant_of-arrivals
unfolding arrivals_start
invariant_of-arrivals c =
    let most = (header_facts _ c.args.self.now.header).links_most in
    record {
      placed = c.requires.end_is;
      low = omega (arith, c.requires.end_most);
      counted = c.links_of.ensures.0;
      few = omega (arith, c.links_of.ensures);
    }

pub returns : goal.returns
returns c = laid_out _ (header_facts _ c.args.self.now.header) c.args.self.now.placed c.requires c.links_of.ensures.0 c.turns_of.ensures.0 c.signals_of.ensures.0 c.modes_of.ensures.0 c.boxes_of-boxes.ensures.0 c.entries_of.ensures.0 c.record_at.ensures.0 (c.of.result.sized ∙ rw c.of.ensures.0) c.of.result.small
