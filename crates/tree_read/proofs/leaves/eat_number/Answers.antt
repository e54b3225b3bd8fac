use Rattle.std.proofs.Common.{ap, arith}
use Rattle.tree_json.specs.Reading.{ate}
use Rattle.tree_read.specs.laws.Eaten.{same_place}
use Rattle.tree_read.specs.laws.Numbers.{one_place, two-places, three-places, four-places, five-places}
use Rattle.tree_read.proofs.leaves.eat_number.Goals as goal

pub returns-then-v-lt10 : goal.returns-then-v-lt10
returns-then-v-lt10 c = same_place c.args.json.now _ (ap (λ l. ate l c.args.json.now c.args.at)
    (one_place c.args.v c.digit-e.result c.digit-e.ensures c.if-v-lt10.true)) c.eat.ensures.place

pub returns-then-v-lt100 : goal.returns-then-v-lt100
returns-then-v-lt100 c = same_place c.args.json.now _ (ap (λ l. ate l c.args.json.now c.args.at)
    (two-places c.args.v c.digit-e.result c.digit-e.ensures c.digit-d.result c.digit-d.ensures c.if-v-lt10.false c.if-v-lt100.true)) c.eat-then-v-lt100.ensures.place

pub returns-then-v-lt1000 : goal.returns-then-v-lt1000
returns-then-v-lt1000 c = same_place c.args.json.now _ (ap (λ l. ate l c.args.json.now c.args.at)
    (three-places c.args.v c.digit-e.result c.digit-e.ensures c.digit-d.result c.digit-d.ensures c.if-v-lt10.false c.digit-c.result c.digit-c.ensures c.if-v-lt100.false c.if-v-lt1000.true))
    c.eat-then-v-lt1000.ensures.place

pub returns-then-v-lt10000 : goal.returns-then-v-lt10000
returns-then-v-lt10000 c = same_place c.args.json.now _ (ap (λ l. ate l c.args.json.now c.args.at)
    (four-places c.args.v c.digit-e.result c.digit-e.ensures c.digit-d.result c.digit-d.ensures c.if-v-lt10.false c.digit-c.result c.digit-c.ensures c.if-v-lt100.false c.digit-b.result
    c.digit-b.ensures c.if-v-lt1000.false c.if-v-lt10000.true)) c.eat-then-v-lt10000.ensures.place

pub returns : goal.returns
returns c = same_place c.args.json.now _ (ap (λ l. ate l c.args.json.now c.args.at)
    (five-places c.args.v c.digit-e.result c.digit-e.ensures c.digit-d.result c.digit-d.ensures c.if-v-lt10.false c.digit-c.result c.digit-c.ensures c.if-v-lt100.false c.digit-b.result
    c.digit-b.ensures c.if-v-lt1000.false c.digit-a.result c.digit-a.ensures c.if-v-lt10000.false)) c.eat-2.ensures.place
