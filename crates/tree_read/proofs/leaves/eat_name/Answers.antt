use Rattle.std.proofs.Common.{◌∷◌, [], ◌++◌, map, ap}
use Rattle.grammar_table.specs.Table.{words_from}
use Rattle.write_leaves.specs.steps.Printed.{low}
use Rattle.tree_json.specs.Json.{quote}
use Rattle.tree_json.specs.Reading.{ate}
use Rattle.tree_read.specs.laws.Eaten.{same_place, unreached, reach-on, gone-on}
use Rattle.tree_read.specs.laws.Names.{a_name, a_lake}
use Rattle.tree_read.proofs.leaves.eat_name.Goals as goal

pub returns-in_err-a-clause-place : goal.returns-in_err-a-clause-place
returns-in_err-a-clause-place c = same_place c.args.json.now _ (ap (λ l. ate l c.args.json.now c.args.at) (a_name c.args.t.now c.args.r c.name_at-i.result c.kind.result
    c.name_length-n.result c.name_at-i.ensures c.kind.ensures.0 c.name_length-n.ensures.0 c.if-kind-eq0.true))
    (unreached c.args.json.now c.from_residual.ensures (gone-on c.args.json.now (map low (words_from c.args.t.now c.name_at-i.result c.name_length-n.result)) quote c.args.at c.in_err-a.ensures))

pub returns-then-kind-eq0-clause-place : goal.returns-then-kind-eq0-clause-place
returns-then-kind-eq0-clause-place c = same_place c.args.json.now _ (ap (λ l. ate l c.args.json.now c.args.at) (a_name c.args.t.now c.args.r c.name_at-i.result c.kind.result
    c.name_length-n.result c.name_at-i.ensures c.kind.ensures.0 c.name_length-n.ensures.0 c.if-kind-eq0.true))
    (reach-on c.args.json.now (map low (words_from c.args.t.now c.name_at-i.result c.name_length-n.result)) quote c.args.at c.in_ok-a.a _ c.in_ok-a.ensures c.eat.ensures.place)

pub returns-in_err-a-2-clause-place : goal.returns-in_err-a-2-clause-place
returns-in_err-a-2-clause-place c = same_place c.args.json.now _ (ap (λ l. ate l c.args.json.now c.args.at) (a_lake c.args.t.now c.args.r c.name_at-i.result c.kind.result
    c.name_length-n.result c.name_at-i.ensures c.kind.ensures.0 c.name_length-n.ensures.0 c.if-kind-eq0.false))
    (unreached c.args.json.now c.from_residual-in_err-a-2.ensures (gone-on c.args.json.now (60 ∷ []) ((map low (words_from c.args.t.now c.name_at-i.result c.name_length-n.result)) ++
    (62 ∷ 34 ∷ [])) c.args.at c.in_err-a-2.ensures.place))

pub returns-in_err-b-clause-place : goal.returns-in_err-b-clause-place
returns-in_err-b-clause-place c = same_place c.args.json.now _ (ap (λ l. ate l c.args.json.now c.args.at) (a_lake c.args.t.now c.args.r c.name_at-i.result c.kind.result
    c.name_length-n.result c.name_at-i.ensures c.kind.ensures.0 c.name_length-n.ensures.0 c.if-kind-eq0.false))
    (reach-on c.args.json.now (60 ∷ []) ((map low (words_from c.args.t.now c.name_at-i.result c.name_length-n.result)) ++ (62 ∷ 34 ∷ [])) c.args.at c.in_ok-a-2.a _ c.in_ok-a-2.ensures.place
    (unreached c.args.json.now c.from_residual-in_err-b.ensures (gone-on c.args.json.now (map low (words_from c.args.t.now c.name_at-i.result c.name_length-n.result))
    (62 ∷ 34 ∷ []) c.in_ok-a-2.a c.in_err-b.ensures)))

pub returns-clause-place : goal.returns-clause-place
returns-clause-place c = same_place c.args.json.now _ (ap (λ l. ate l c.args.json.now c.args.at) (a_lake c.args.t.now c.args.r c.name_at-i.result c.kind.result c.name_length-n.result
    c.name_at-i.ensures c.kind.ensures.0 c.name_length-n.ensures.0 c.if-kind-eq0.false))
    (reach-on c.args.json.now (60 ∷ []) ((map low (words_from c.args.t.now c.name_at-i.result c.name_length-n.result)) ++ (62 ∷ 34 ∷ [])) c.args.at c.in_ok-a-2.a _ c.in_ok-a-2.ensures.place
    (reach-on c.args.json.now (map low (words_from c.args.t.now c.name_at-i.result c.name_length-n.result)) (62 ∷ 34 ∷ []) c.in_ok-a-2.a c.in_ok-b.b _ c.in_ok-b.ensures c.eat-3.ensures.place))
