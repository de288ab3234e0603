use Rattle.std.proofs.Common.{◌≡◌, ◌∙◌, ap, arith, rules, tests, leb, true, false}
use Rattle.std.proofs.lemmas.Iterator.{first_from_Range, serves_from_Range}
use Rattle.certificate.specs.Loops.{find}
use Rattle.certificate.specs.Layout.{from_of}
use Rattle.octets.proofs.Finding.{find_of}
use Rattle.supply.proofs.first_turn.Goals as goal

pub find-requires : goal.find-requires
find-requires c = record { can = tt; finite = tt; callable = serves_from_Range (λ x q k. search (rules, tests)) (λ x low high. search (rules, c.args.certificate.now.laid.turns_are)) }

pub returns : goal.returns
returns c =
    let s = c.args.certificate.now.bytes.now in
    c.unwrap_or.ensures
    ∙ find_of _ _ _
    (first_from_Range _ _ _ _ (λ i. leb c.args.j (from_of s i) ≡ true) (λ i. leb c.args.j (from_of s i) ≡ false) c.find.ensures.ran
    (λ x q k. grind (arith, tests))
    (λ x q k. (search rules, grind (arith, tests))))
    ∙ ap (λ n. find n (λ t. leb c.args.j (from_of s t))) c.args.certificate.now.laid.turns_are
