use Rattle.std.proofs.Common.{sym, ap, ◌∙◌, arith}
use Rattle.tree_json.specs.Json.{char_json}
use Rattle.tree_json.specs.Reading.{ate}
use Rattle.tree_read.specs.laws.Eaten.{same_place}
use Rattle.tree_read.specs.laws.Chars.{escaped, below-blank, plain_byte, from-delete}
use Rattle.tree_read.proofs.leaves.eat_char.Goals.{in_default-via-then-c-lt32, in_default-via-else-c-lt32+else-c-lt127}
use Rattle.tree_read.proofs.leaves.eat_char.Goals as goal

pub returns-in-34 : goal.returns-in-34
unfolding char_json
returns-in-34 c = same_place c.args.json.now _ (ap (λ x. ate (char_json x) c.args.json.now c.args.at) (sym c.in-34.is)) c.eat.ensures.place

pub returns-in-92 : goal.returns-in-92
unfolding char_json
returns-in-92 c = same_place c.args.json.now _ (ap (λ x. ate (char_json x) c.args.json.now c.args.at) (sym c.in-92.is)) c.eat-in-92.ensures.place

pub returns-in-32-to-126 : goal.returns-in-32-to-126
returns-in-32-to-126 c = same_place c.args.json.now _
    (ap (λ l. ate l c.args.json.now c.args.at) (plain_byte c.args.c (λ e. omega (arith, e)) (λ e. omega (arith, e)) (omega arith) (omega arith))) c.eat-in-32-to-126.ensures.place

pub returns-in_default : goal.returns-in_default
returns-in_default c = elim c.in_default.branch [
  | in_default-via-then-c-lt32 w ↦ same_place c.args.json.now _ (ap (λ l. ate l c.args.json.now c.args.at)
      (escaped c.args.c c.hex_digit-high.result c.hex_digit-low.result c.hex_digit-high.ensures c.hex_digit-low.ensures
      ∙ below-blank c.args.c (λ e. omega (arith, e)) (λ e. omega (arith, e)) (omega arith))) c.eat-in_default.ensures.place
  | in_default-via-else-c-lt32+else-c-lt127 w ↦ same_place c.args.json.now _ (ap (λ l. ate l c.args.json.now c.args.at)
      (escaped c.args.c c.hex_digit-high.result c.hex_digit-low.result c.hex_digit-high.ensures c.hex_digit-low.ensures
      ∙ from-delete c.args.c (λ e. omega (arith, e)) (λ e. omega (arith, e)) (omega arith))) c.eat-in_default.ensures.place
]
