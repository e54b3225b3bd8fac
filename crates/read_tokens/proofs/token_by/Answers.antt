use mathlib.Core.Path.{ap, ◌∙◌}
use mathlib.Core.List.{List}
use mathlib.Core.Logic.{inl, inr}
use Prim.Native.Nat.{ℕ, suc}
use lib.Seq.{drop-cons}
use Rattle.read_tokens.specs.declared.Kind.{Kind}
use Rattle.read_tokens.specs.steps.Code.{coded, made, named}
use Rattle.read_tokens.specs.Tokens.{by_kind, name_span}
use Rattle.read_tokens.proofs.LiteralSteps.{bad-is}
use Rattle.read_tokens.proofs.TokenSteps.{token_end, token-is, one-is}
use Rattle.read_tokens.proofs.token_by.Goals as goal

pub returns-then-text-i : goal.returns-then-text-i
returns-then-text-i c = c.plain.ensures ∙ token_end c.args.mode c.args.text.now c.args.at _ c.blanks-i.ensures c.if-text-i.true

pub returns-in-Letter : goal.returns-in-Letter
unfolding by_kind
returns-in-Letter c =
    c.name_token.ensures ∙ ap (λ (l : List ℕ). coded (named c.blanks-i.result (name_span l))) (drop-cons c.args.text.now c.blanks-i.result 0 c.if-text-i.false)
    ∙ token-is c.args.mode c.args.text.now c.args.at _ c.blanks-i.ensures c.if-text-i.false c.kind_of.ensures c.in-Letter.is

pub returns-in-Open : goal.returns-in-Open
unfolding by_kind
returns-in-Open c =
    c.plain-in-Open.ensures ∙ one-is _ _
    ∙ token-is c.args.mode c.args.text.now c.args.at _ c.blanks-i.ensures c.if-text-i.false c.kind_of.ensures c.in-Open.is

pub returns-in-Close : goal.returns-in-Close
unfolding by_kind
returns-in-Close c =
    c.plain-in-Close.ensures ∙ one-is _ _
    ∙ token-is c.args.mode c.args.text.now c.args.at _ c.blanks-i.ensures c.if-text-i.false c.kind_of.ensures c.in-Close.is

pub returns-in-Slash : goal.returns-in-Slash
unfolding by_kind
returns-in-Slash c =
    c.plain-in-Slash.ensures ∙ one-is _ _
    ∙ token-is c.args.mode c.args.text.now c.args.at _ c.blanks-i.ensures c.if-text-i.false c.kind_of.ensures c.in-Slash.is

pub returns-in-Prefix : goal.returns-in-Prefix
unfolding by_kind
returns-in-Prefix c =
    c.plain-in-Prefix.ensures ∙ one-is _ _ ∙ ap (λ (k : Kind). made k c.blanks-i.result (suc c.blanks-i.result) 0) c.prefix_of.ensures
    ∙ token-is c.args.mode c.args.text.now c.args.at _ c.blanks-i.ensures c.if-text-i.false c.kind_of.ensures c.in-Prefix.is

pub returns-in-Suffix : goal.returns-in-Suffix
unfolding by_kind
returns-in-Suffix c =
    c.plain-in-Suffix.ensures ∙ one-is _ _ ∙ ap (λ (k : Kind). made k c.blanks-i.result (suc c.blanks-i.result) 0) c.suffix_of.ensures
    ∙ token-is c.args.mode c.args.text.now c.args.at _ c.blanks-i.ensures c.if-text-i.false c.kind_of.ensures c.in-Suffix.is

pub returns-in-Dot : goal.returns-in-Dot
unfolding by_kind
returns-in-Dot c =
    c.plain-in-Dot.ensures ∙ one-is _ _
    ∙ token-is c.args.mode c.args.text.now c.args.at _ c.blanks-i.ensures c.if-text-i.false c.kind_of.ensures c.in-Dot.is

pub returns-in-Quote : goal.returns-in-Quote
unfolding by_kind
returns-in-Quote c =
    c.literal_token.ensures
    ∙ token-is c.args.mode c.args.text.now c.args.at _ c.blanks-i.ensures c.if-text-i.false c.kind_of.ensures c.in-Quote.is

pub returns-in-Class : goal.returns-in-Class
unfolding by_kind
returns-in-Class c =
    c.class_token.ensures
    ∙ token-is c.args.mode c.args.text.now c.args.at _ c.blanks-i.ensures c.if-text-i.false c.kind_of.ensures c.in-Class.is

pub returns-in-Less : goal.returns-in-Less
unfolding by_kind
returns-in-Less c =
    c.less_token.ensures
    ∙ token-is c.args.mode c.args.text.now c.args.at _ c.blanks-i.ensures c.if-text-i.false c.kind_of.ensures c.in-Less.is

pub returns-in-Other : goal.returns-in-Other
unfolding by_kind
returns-in-Other c =
    c.plain-in-Other.ensures
    ∙ bad-is _
    ∙ elim c.in-Other.is [
      | inl e ↦ token-is c.args.mode c.args.text.now c.args.at _ c.blanks-i.ensures c.if-text-i.false c.kind_of.ensures e
      | inr (inl e) ↦ token-is c.args.mode c.args.text.now c.args.at _ c.blanks-i.ensures c.if-text-i.false c.kind_of.ensures e
      | inr (inr (inl e)) ↦ token-is c.args.mode c.args.text.now c.args.at _ c.blanks-i.ensures c.if-text-i.false c.kind_of.ensures e
      | inr (inr (inr e)) ↦ token-is c.args.mode c.args.text.now c.args.at _ c.blanks-i.ensures c.if-text-i.false c.kind_of.ensures e
    ]
