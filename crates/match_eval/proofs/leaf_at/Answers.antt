use Rattle.std.proofs.Common.{ℕ, ap, ◌∙◌, arith}
use Rattle.read_tokens.specs.Token.{Leaf, literal, class}
use Rattle.grammar_table.specs.Table.{words_from, marks_from}
use Rattle.grammar_table.specs.laws.Leaves.{is_any, is-literal, is-class}
use Rattle.match_eval.specs.Eval.{leaf_at}
use Rattle.match_eval.proofs.leaf_at.Goals as goal

pub returns-in-0 : goal.returns-in-0
returns-in-0 c =
    c.any_at.ensures
    ∙ ap (λ (l : Leaf). leaf_at c.args.s.now l c.args.p) (is_any c.args.t.now c.args.x c.leaf_kind.result c.leaf_kind.ensures.0 c.in-0.is)

pub returns-in-1 : goal.returns-in-1
returns-in-1 c =
    c.literal_at.ensures
    ∙ ap (λ (i : ℕ). leaf_at c.args.s.now (literal (words_from c.args.t.now i c.leaf_length-n.result)) c.args.p) c.content_at-i.ensures
    ∙ ap (λ (l : Leaf). leaf_at c.args.s.now l c.args.p)
    (is-literal c.args.t.now c.args.x c.leaf_kind.result c.leaf_kind.ensures.0 c.leaf_length-n.result c.leaf_length-n.ensures.0 c.in-1.is)

pub returns-in_default : goal.returns-in_default
returns-in_default c =
    c.class_at.ensures
    ∙ ap (λ (i : ℕ). leaf_at c.args.s.now (class (marks_from c.args.t.now i 256)) c.args.p) c.content_at-i.ensures
    ∙ ap (λ (l : Leaf). leaf_at c.args.s.now l c.args.p)
    (is-class c.args.t.now c.args.x c.leaf_kind.result c.leaf_kind.ensures.0 (λ z. omega (arith, z)) (λ z. omega (arith, z)))
