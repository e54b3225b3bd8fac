use Rattle.std.proofs.Common.{ℕ, List, Option, Some, None, IfSome, ◌-◌, ◌≤◌, ◌≡◌, refl, ap, ◌∙◌, subst, arith, rules}
use Rattle.std.proofs.lemmas.Grind.{common_steps}
use Rattle.std.proofs.lemmas.Option.{IfSome_then, same_Some, none-some}
use Rattle.grammar_table.specs.Table.{right_of}
use Rattle.grammar_table.specs.Trees.{tree_of, below}
use Rattle.match_eval.specs.steps.Firsts.{Sure, Guards}
use Rattle.match_eval.proofs.laws.EvalSteps.{opt-fails, opt-takes, ahead-fails, ahead-takes, never-takes, never-fails}
use Rattle.match_firsts.specs.declared.Decided.{Decided}
use Rattle.match_firsts.specs.declared.Decided.TheVariants.{Fails, Empty, Takes}
use Rattle.match_firsts.specs.steps.Firm.{Firm}
use Rattle.match_firsts.specs.steps.Taken.{taken_of}
use Rattle.match_firsts.specs.laws.Firsts.{not-fails, not-takes, dot-sure, sure-leaf, sure-symbol, sure-left, sure_next, sure-guard, sure-one, sure-both}
use Rattle.match_firsts.specs.laws.Firsts.{sure-option, sure-star, sure-plus, sure-ahead, sure-never, firm-ahead, firm-never}
use Rattle.match_firsts.proofs.Sight.decide.Goals as goal

-- what is said of part y, which is part z
module _ (t mem : List ℕ) (n b y z : ℕ) where
  part : (v : ℕ) → y ≡ z → Sure t mem n b (tree_of t y) v → Sure t mem n b (tree_of t z) v
  part v e h = subst (λ (j : ℕ). Sure t mem n b (tree_of t j) v) e h

  given : (o : Option Decided) (v : Decided) → o ≡ Some v → y ≡ z → IfSome o (λ u. Sure t mem n b (tree_of t y) (taken_of u)) → Sure t mem n b (tree_of t z) (taken_of v)
  given (Some u) v e f h = part (taken_of v) f (subst (λ (i : Decided). Sure t mem n b (tree_of t y) (taken_of i)) (same_Some u v e) h)
  given None v e f h = absurd (none-some v e)

-- two ways to pass on what is said of a part
unless-fails : {P Q : Decided → Type 0} (o : Option Decided) → (o ≡ Some Fails → ⊥) → IfSome o P → ((v : Decided) → (taken_of v ≡ 0 → ⊥) → P v → Q v) → IfSome o Q
unless-fails None f h g = tt
unless-fails (Some v) f h g = g v (not-fails v (λ e. f (ap Some e))) h

unless-takes : {P Q : Decided → Type 0} (o : Option Decided) → (o ≡ Some Takes → ⊥) → IfSome o P → ((v : Decided) → taken_of v ≤ 1 → P v → Q v) → IfSome o Q
unless-takes None f h g = tt
unless-takes (Some v) f h g = g v (not-takes v (λ e. f (ap Some e))) h

pub returns-then-x-eq0 : goal.returns-then-x-eq0
returns-then-x-eq0 c =
    let f = c.args.self.now in
    dot-sure f.table.now f.mem.now f.n f.b c.args.x c.if-x-eq0.true f.byte

pub returns-then-op-eq-TERMINAL : goal.returns-then-op-eq-TERMINAL
returns-then-op-eq-TERMINAL c =
    let f = c.args.self.now in
    IfSome_then c.leaf_first.result c.leaf_first.ensures (λ v h.
    sure-leaf f.table.now f.mem.now f.n f.b c.args.x c.op-op.result c.left-l.result c.if-x-eq0.false c.op-op.ensures.0 c.left-l.ensures.0 (taken_of v)
    c.if-op-eq-TERMINAL.true h)

pub returns-then-op-eq-SYMBOL : goal.returns-then-op-eq-SYMBOL
returns-then-op-eq-SYMBOL c =
    let f = c.args.self.now in
    IfSome_then c.symbol_first.result c.symbol_first.ensures (λ v h.
    sure-symbol f.table.now f.mem.now f.n f.b c.args.x c.op-op.result c.left-l.result c.if-x-eq0.false c.op-op.ensures.0 c.left-l.ensures.0 (taken_of v)
    c.if-op-eq-SYMBOL.true h)

pub returns-in-Some-Fails : goal.returns-in-Some-Fails
returns-in-Some-Fails c =
    let f = c.args.self.now in
    sure-left f.table.now f.mem.now f.n f.b c.args.x c.op-op.result c.left-l.result c.if-x-eq0.false c.op-op.ensures.0 c.left-l.ensures.0 c.in-2.is
    (given f.table.now f.mem.now f.n f.b c.part-y.result (below c.left-l.result (c.args.x - 1)) c.first-left.result Fails (search rules) c.part-y.ensures
    c.first-left.ensures)

pub returns-in-Some-Empty : goal.returns-in-Some-Empty
returns-in-Some-Empty c =
    let f = c.args.self.now in
    IfSome_then c.first.result c.first.ensures (λ v h.
    sure_next f.table.now f.mem.now f.n f.b c.args.x c.op-op.result c.left-l.result c.if-x-eq0.false c.op-op.ensures.0 c.left-l.ensures.0 (taken_of v) c.in-2.is
    (given f.table.now f.mem.now f.n f.b c.part-y.result (below c.left-l.result (c.args.x - 1)) c.first-left.result Empty (search rules) c.part-y.ensures
    c.first-left.ensures)
    (part f.table.now f.mem.now f.n f.b c.part-z.result (below (right_of f.table.now (c.args.x - 1)) (c.args.x - 1)) (taken_of v) (c.part-z.ensures ∙ ap (λ (j :
    ℕ). below j (c.args.x - 1)) c.right-r.ensures.0) h))

pub returns-in-Some-Fails-left : goal.returns-in-Some-Fails-left
returns-in-Some-Fails-left c =
    let f = c.args.self.now in
    IfSome_then c.first-in-Some-Fails-left.result c.first-in-Some-Fails-left.ensures (λ v h.
    sure-both f.table.now f.mem.now f.n f.b c.args.x c.op-op.result c.left-l.result c.if-x-eq0.false c.op-op.ensures.0 c.left-l.ensures.0 (taken_of v) c.in-3.is
    (given f.table.now f.mem.now f.n f.b c.part-y.result (below c.left-l.result (c.args.x - 1)) c.first-left.result Fails (search rules) c.part-y.ensures
    c.first-left.ensures)
    (part f.table.now f.mem.now f.n f.b c.part-z.result (below (right_of f.table.now (c.args.x - 1)) (c.args.x - 1)) (taken_of v) (c.part-z.ensures ∙ ap (λ (j :
    ℕ). below j (c.args.x - 1)) c.right-r.ensures.0) h))

pub returns-in_default-left-2 : goal.returns-in_default-left-2
returns-in_default-left-2 c =
    let f = c.args.self.now in
    unless-fails c.first-left.result (search rules) c.first-left.ensures (λ v g h.
    sure-one f.table.now f.mem.now f.n f.b c.args.x c.op-op.result c.left-l.result c.if-x-eq0.false c.op-op.ensures.0 c.left-l.ensures.0 (taken_of v) c.in-3.is g
    (part f.table.now f.mem.now f.n f.b c.part-y.result (below c.left-l.result (c.args.x - 1)) (taken_of v) c.part-y.ensures h))

pub returns-in-Some-Fails-left-2 : goal.returns-in-Some-Fails-left-2
returns-in-Some-Fails-left-2 c =
    let f = c.args.self.now in
    sure-option f.table.now f.mem.now f.n f.b c.args.x c.op-op.result c.left-l.result c.if-x-eq0.false c.op-op.ensures.0 c.left-l.ensures.0 0 1 c.in-4.is
    (opt-fails 0 0 refl refl)
    (given f.table.now f.mem.now f.n f.b c.part-y.result (below c.left-l.result (c.args.x - 1)) c.first-left.result Fails (search rules) c.part-y.ensures
    c.first-left.ensures)

pub returns-in_default-left-3 : goal.returns-in_default-left-3
returns-in_default-left-3 c =
    let f = c.args.self.now in
    unless-fails c.first-left.result (search rules) c.first-left.ensures (λ v g h.
    sure-option f.table.now f.mem.now f.n f.b c.args.x c.op-op.result c.left-l.result c.if-x-eq0.false c.op-op.ensures.0 c.left-l.ensures.0 (taken_of v) (taken_of
    v) c.in-4.is (opt-takes (taken_of v) (taken_of v) refl g)
    (part f.table.now f.mem.now f.n f.b c.part-y.result (below c.left-l.result (c.args.x - 1)) (taken_of v) c.part-y.ensures h))

pub returns-in-Some-Fails-left-3 : goal.returns-in-Some-Fails-left-3
returns-in-Some-Fails-left-3 c =
    let f = c.args.self.now in
    let h : c.in-Some-Fails-left-3.field-0 ≡ Takes → ⊥ = search rules in
    sure-star f.table.now f.mem.now f.n f.b c.args.x c.op-op.result c.left-l.result c.if-x-eq0.false c.op-op.ensures.0 c.left-l.ensures.0 (taken_of
    c.in-Some-Fails-left-3.field-0) c.in-5.is
    (not-takes c.in-Some-Fails-left-3.field-0 h)
    (given f.table.now f.mem.now f.n f.b c.part-y.result (below c.left-l.result (c.args.x - 1)) c.first-left.result c.in-Some-Fails-left-3.field-0
    c.in-Some-Fails-left-3.is c.part-y.ensures c.first-left.ensures)

pub returns-in_default-left-5 : goal.returns-in_default-left-5
returns-in_default-left-5 c =
    let f = c.args.self.now in
    unless-takes c.first-left.result (λ e. grind (arith, common_steps)) c.first-left.ensures (λ v g h.
    sure-plus f.table.now f.mem.now f.n f.b c.args.x c.op-op.result c.left-l.result c.if-x-eq0.false c.op-op.ensures.0 c.left-l.ensures.0 (taken_of v) c.in-6.is g
    (part f.table.now f.mem.now f.n f.b c.part-y.result (below c.left-l.result (c.args.x - 1)) (taken_of v) c.part-y.ensures h))

pub returns-in-Some-Fails-left-4 : goal.returns-in-Some-Fails-left-4
returns-in-Some-Fails-left-4 c =
    let f = c.args.self.now in
    sure-ahead f.table.now f.mem.now f.n f.b c.args.x c.op-op.result c.left-l.result c.if-x-eq0.false c.op-op.ensures.0 c.left-l.ensures.0 0 0 c.in-7.is
    (ahead-fails 0 0 refl refl)
    (given f.table.now f.mem.now f.n f.b c.part-y.result (below c.left-l.result (c.args.x - 1)) c.first-left.result Fails (search rules) c.part-y.ensures
    c.first-left.ensures)

pub returns-in-Some : goal.returns-in-Some
returns-in-Some c =
    let f = c.args.self.now in
    let h : c.in-Some.field-0 ≡ Fails → ⊥ = search rules in
    sure-ahead f.table.now f.mem.now f.n f.b c.args.x c.op-op.result c.left-l.result c.if-x-eq0.false c.op-op.ensures.0 c.left-l.ensures.0 (taken_of
    c.in-Some.field-0) 1 c.in-7.is (ahead-takes (taken_of c.in-Some.field-0) (taken_of c.in-Some.field-0) refl (not-fails c.in-Some.field-0 h))
    (given f.table.now f.mem.now f.n f.b c.part-y.result (below c.left-l.result (c.args.x - 1)) c.first-left.result c.in-Some.field-0 c.in-Some.is c.part-y.ensures
    c.first-left.ensures)

pub returns-in-Some-Fails-left-5 : goal.returns-in-Some-Fails-left-5
returns-in-Some-Fails-left-5 c =
    let f = c.args.self.now in
    sure-never f.table.now f.mem.now f.n f.b c.args.x c.op-op.result c.left-l.result c.if-x-eq0.false c.op-op.ensures.0 c.left-l.ensures.0 0 1
    (λ z. omega (arith, z)) (λ z. omega (arith, z)) (λ z. omega (arith, z)) (λ z. omega (arith, z)) (λ z. omega (arith, z)) (λ z. omega (arith, z)) (λ z. omega (arith, z)) (λ z.
    omega (arith, z)) (never-takes 0 0 refl refl)
    (given f.table.now f.mem.now f.n f.b c.part-y.result (below c.left-l.result (c.args.x - 1)) c.first-left.result Fails (search rules) c.part-y.ensures
    c.first-left.ensures)

pub returns-in-Some-left : goal.returns-in-Some-left
returns-in-Some-left c =
    let f = c.args.self.now in
    let h : c.in-Some-left.field-0 ≡ Fails → ⊥ = search rules in
    sure-never f.table.now f.mem.now f.n f.b c.args.x c.op-op.result c.left-l.result c.if-x-eq0.false c.op-op.ensures.0 c.left-l.ensures.0 (taken_of
    c.in-Some-left.field-0) 0
    (λ z. omega (arith, z)) (λ z. omega (arith, z)) (λ z. omega (arith, z)) (λ z. omega (arith, z)) (λ z. omega (arith, z)) (λ z. omega (arith, z)) (λ z. omega (arith, z)) (λ z.
    omega (arith, z)) (never-fails (taken_of c.in-Some-left.field-0) (taken_of c.in-Some-left.field-0) refl (not-fails c.in-Some-left.field-0 h))
    (given f.table.now f.mem.now f.n f.b c.part-y.result (below c.left-l.result (c.args.x - 1)) c.first-left.result c.in-Some-left.field-0 c.in-Some-left.is
    c.part-y.ensures c.first-left.ensures)

pub returns-in-None : goal.returns-in-None
returns-in-None c =
    let f = c.args.self.now in
    firm-ahead f.table.now f.mem.now f.n f.b c.args.x c.op-op.result c.left-l.result c.if-x-eq0.false c.op-op.ensures.0 c.left-l.ensures.0 c.in-7.is
    (subst (λ (j : ℕ). Firm (tree_of f.table.now j)) c.part-y.ensures (c.firm.ensures c.if-firm.true))

pub returns-in-None-left : goal.returns-in-None-left
returns-in-None-left c =
    let f = c.args.self.now in
    firm-never f.table.now f.mem.now f.n f.b c.args.x c.op-op.result c.left-l.result c.if-x-eq0.false c.op-op.ensures.0 c.left-l.ensures.0
    (λ z. omega (arith, z)) (λ z. omega (arith, z)) (λ z. omega (arith, z)) (λ z. omega (arith, z)) (λ z. omega (arith, z)) (λ z. omega (arith, z)) (λ z. omega (arith, z)) (λ z.
    omega (arith, z)) (subst (λ (j : ℕ). Firm (tree_of f.table.now j)) c.part-y.ensures (c.firm-in_default.ensures c.if-firm-2.true))

pub returns-in-Some-Fails-first : goal.returns-in-Some-Fails-first
returns-in-Some-Fails-first c =
    let f = c.args.self.now in
    sure-guard f.table.now f.mem.now f.n f.b c.args.x c.op-op.result c.left-l.result c.if-x-eq0.false c.op-op.ensures.0 c.left-l.ensures.0 c.in-2.is
    (subst (λ (j : ℕ). Guards (tree_of f.table.now j)) c.part-y.ensures (c.guards.ensures c.if-guards.true))
    (given f.table.now f.mem.now f.n f.b c.part-z.result (below (right_of f.table.now (c.args.x - 1)) (c.args.x - 1)) c.first-in_default-left.result Fails (search
    rules)
    (c.part-z.ensures ∙ ap (λ (j : ℕ). below j (c.args.x - 1)) c.right-r.ensures.0) c.first-in_default-left.ensures)
