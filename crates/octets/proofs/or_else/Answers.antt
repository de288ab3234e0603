-- `octets::or_else` meets its contract.
use mathlib.Core.Path.{refl}
use Rattle.octets.proofs.Cases.{first, second}
use Rattle.octets.proofs.or_else.Goals as goal

pub returns-then-first-ne0 : goal.returns-then-first-ne0
returns-then-first-ne0 c = first _ _ _ refl c.if-first-ne0.true

pub returns : goal.returns
returns c = second _ _ _ _ refl c.if-first-ne0.false refl
