use mathlib.Core.List.{[]}
use mathlib.Core.Path.{◌≡◌, sym, ap, ap₂, ◌∙◌, subst}
use mathlib.Core.List.{List, ◌∷◌}
use Prim.Native.Nat.{ℕ, ◌+◌, ◌-◌, ◌<◌}
use native.Mathlib.Omega.{arith}
use Rattle.grammar_table.specs.Table.{part_by, part_in}
use Rattle.grammar.specs.Parts.{Part}
use Rattle.lake_step_one.specs.steps.Runs.{shift, Above, Grew}
use Rattle.lake_step_one.proofs.laws.Stores.{grew-one}
use Rattle.lake_step_one.proofs.laws.Shifts.{shift-below, shift-part}
use Rattle.lake_step_one.proofs.copy_one.Goals as goal

pub returns-then-op-lt2 : goal.returns-then-op-lt2
unfolding part_in
returns-then-op-lt2 c = λ long before above.
    let e : part_by c.op-op.result c.left-l.result
    c.right-r.result ≡ part_in c.args.t.now
    c.args.e = ap₂ (λ (f : ℕ → Part) (r : ℕ). f r) (ap₂ part_by
    c.op-op.ensures.0 c.left-l.ensures.0)
    c.right-r.ensures.0 in
    subst (λ (x : List ℕ). Grew c.args.mid.now
    c.args.at (shift
    c.args.o c.args.m
    (part_in c.args.t.now
    c.args.e) ∷ []) x
    (c.args.at + 1)) (sym c.store_expression.ensures)
    (grew-one c.args.mid.now
    c.args.at c.op-op.result
    c.left-l.result c.right-r.result (shift
    c.args.o c.args.m
    (part_in c.args.t.now
    c.args.e)) long (λ h. shift-below
    c.args.o c.args.m
    c.op-op.result c.left-l.result
    c.right-r.result (omega arith) ∙ ap (shift c.args.o
    c.args.m) e))

pub returns : goal.returns
unfolding part_in
returns c = λ long before above.
    let e : part_by c.op-op.result c.left-l.result
    c.right-r.result ≡ part_in
    c.args.t.now
    c.args.e = ap₂ (λ (f : ℕ → Part) (r : ℕ). f r) (ap₂ part_by
    c.op-op.ensures.0 c.left-l.ensures.0)
    c.right-r.ensures.0 in
    subst (λ (x : List ℕ). Grew c.args.mid.now
    c.args.at (shift
    c.args.o
    c.args.m (part_in
    c.args.t.now
    c.args.e) ∷ []) x
    (c.args.at + 1)) (sym c.store_expression-2.ensures)
    (grew-one c.args.mid.now
    c.args.at
    c.op-op.result c.moved.result
    c.moved-2.result (shift c.args.o
    c.args.m (part_in
    c.args.t.now
    c.args.e)) long
    (λ h. let u : c.args.m < 1024 = omega arith in shift-part
    c.args.o
    c.args.m
    c.op-op.result c.left-l.result
    c.right-r.result c.moved.result c.moved-2.result
    (omega arith) (subst (λ (p : Part). Above c.args.o p) (sym e) above)
    (c.moved.ensures.1 u) (c.moved-2.ensures.1 u) ∙ ap (shift
    c.args.o
    c.args.m) e))
