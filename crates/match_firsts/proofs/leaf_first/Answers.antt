use Rattle.std.proofs.Common.{ℕ, ◌≡◌, ◌+◌, get_or, sym, ap, ◌∙◌, subst, arith}
use Rattle.grammar_table.specs.Table.{content_at}
use Rattle.read_tokens.specs.Token.{Leaf}
use Rattle.grammar_table.specs.laws.Leaves.{is_any, is-literal, is-class}
use Rattle.match_eval.specs.steps.Firsts.{LeafSure}
use Rattle.match_firsts.specs.laws.Firsts.{any-sure, empty-sure, literal-off, literal-sure, class-off, class-sure}
use Rattle.match_firsts.proofs.leaf_first.Goals as goal

pub returns-in-0 : goal.returns-in-0
returns-in-0 c =
    subst (λ (l : Leaf). LeafSure c.args.b l 2) (is_any c.args.t.now c.args.x c.leaf_kind.result c.leaf_kind.ensures.0 c.in-0.is) (any-sure c.args.b c.requires.1)

pub returns-then-n-eq0 : goal.returns-then-n-eq0
returns-then-n-eq0 c =
    subst (λ (l : Leaf). LeafSure c.args.b l 1)
    (is-literal c.args.t.now c.args.x c.leaf_kind.result c.leaf_kind.ensures.0 c.leaf_length-n.result c.leaf_length-n.ensures.0 c.in-1.is)
    (empty-sure c.args.t.now (content_at c.args.x) c.leaf_length-n.result c.args.b c.if-n-eq0.true)

pub returns-then-leaf_word-b : goal.returns-then-leaf_word-b
returns-then-leaf_word-b c =
    let z : content_at c.args.x + 0 ≡ content_at c.args.x = omega arith in
    subst (λ (l : Leaf). LeafSure c.args.b l 0)
    (is-literal c.args.t.now c.args.x c.leaf_kind.result c.leaf_kind.ensures.0 c.leaf_length-n.result c.leaf_length-n.ensures.0 c.in-1.is)
    (literal-off c.args.t.now (content_at c.args.x) c.leaf_length-n.result c.args.b c.leaf_word.result (omega arith)
    (c.leaf_word.ensures.0 ∙ ap (λ (i : ℕ). get_or c.args.t.now i 0) z) (λ e. c.if-leaf_word-b.true (sym e)))

pub returns-then-n-eq1 : goal.returns-then-n-eq1
returns-then-n-eq1 c =
    let z : content_at c.args.x + 0 ≡ content_at c.args.x = omega arith in
    subst (λ (l : Leaf). LeafSure c.args.b l 2)
    (is-literal c.args.t.now c.args.x c.leaf_kind.result c.leaf_kind.ensures.0 c.leaf_length-n.result c.leaf_length-n.ensures.0 c.in-1.is)
    (literal-sure c.args.t.now (content_at c.args.x) c.leaf_length-n.result c.args.b c.leaf_word.result c.if-n-eq1.true
    (c.leaf_word.ensures.0 ∙ ap (λ (i : ℕ). get_or c.args.t.now i 0) z) (sym c.if-leaf_word-b.false) c.requires.1)

pub returns-then-leaf_word-eq0 : goal.returns-then-leaf_word-eq0
returns-then-leaf_word-eq0 c =
    subst (λ (l : Leaf). LeafSure c.args.b l 0)
    (is-class c.args.t.now c.args.x c.leaf_kind.result c.leaf_kind.ensures.0 (λ z. omega (arith, z)) (λ z. omega (arith, z)))
    (class-off c.args.t.now (content_at c.args.x) c.args.b c.requires.1 (sym c.leaf_word-in_default.ensures.0 ∙ c.if-leaf_word-eq0.true))

pub returns-else-leaf_word-eq0 : goal.returns-else-leaf_word-eq0
returns-else-leaf_word-eq0 c =
    subst (λ (l : Leaf). LeafSure c.args.b l 2)
    (is-class c.args.t.now c.args.x c.leaf_kind.result c.leaf_kind.ensures.0 (λ z. omega (arith, z)) (λ z. omega (arith, z)))
    (class-sure c.args.t.now (content_at c.args.x) c.args.b c.requires.1 (λ z. c.if-leaf_word-eq0.false (c.leaf_word-in_default.ensures.0 ∙ z)))
