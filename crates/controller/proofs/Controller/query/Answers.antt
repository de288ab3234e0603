-- `controller::Controller::query` meets its contract.
use Rattle.std.proofs.Common.{rules, ◌≡◌, ◌∙◌, ap, length}
use Rattle.certificate.specs.Layout.{max_length}
use Rattle.asking.specs.FoundEntries.{Answer}
use Rattle.controller.specs.Parts.{shown_by}
use Rattle.controller.proofs.Held.{query_asks}
use Rattle.controller.proofs.Controller.query.Goals as goal

pub returns : goal.returns
returns c =
    let a = c.args in
    let size : length a.self.bytes ≡ max_length = search rules in
    c.show.ensures ∙ ap (λ (f : Answer). shown_by a.self f) c.ask-outcome.ensures ∙ query_asks a.self a.queues.now a.scale size
