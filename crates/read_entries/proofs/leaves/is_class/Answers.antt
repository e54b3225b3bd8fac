use mir.Val.{bool_byte as from_bool}
use Rattle.std.proofs.Common.{arith, rules, tests, refl, ◌≡◌, ◌+◌, ◌∙◌, map, false, get_or}
use Rattle.std.proofs.lemmas.Iterator.{cases_from_all, YieldsList-from_range}
use Rattle.read_entries.specs.steps.Entries.{bit_of}
use Rattle.read_entries.proofs.Steps.{same-by, mark-told, marks-long}
use Rattle.read_entries.proofs.leaves.is_class.Goals as goal

pub returns : goal.returns
returns c =
    same-by c.args.t.now c.args.at 256 (map bit_of c.args.marks.now) (λ k. from_bool (get_or c.args.marks.now k false)) (marks-long c.args.marks.now ∙ c.told-marks)
    (λ k h. mark-told c.args.marks.now k (omega (arith, c.told-marks))) c.all.result
    (cases_from_all _ _ c.all.result (λ k. get_or c.args.t.now (c.args.at + k) 0 ≡ from_bool (get_or c.args.marks.now k false))
    (λ k. get_or c.args.t.now (c.args.at + k) 0 ≡ from_bool (get_or c.args.marks.now k false) → ⊥)
    c.all.ensures.ran (YieldsList-from_range 0 256 256 refl refl) (λ x q k. search (rules, tests)) (λ x q k. search (rules, tests)))
