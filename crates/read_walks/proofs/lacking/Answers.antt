use Prim.Native.Nat.{ℕ}
use mathlib.Core.Path.{sym, ap, ◌∙◌}
use mathlib.Core.Bool.{not}
use borrow.Author.Tests.{not-true, not-false}
use Rattle.read_tokens.specs.declared.Kind.{Kind}
use Rattle.read_tokens.specs.declared.Kind.TheVariants.{Name}
use Rattle.read_tokens.specs.declared.Token.{Token}
use Rattle.grammar.specs.Same.{same_symbol, is_in}
use Rattle.read_walks.specs.steps.Names.{bytes_at, symbol_by}
use Rattle.read_tokens.specs.Tokens.{token_at, lexemes}
use Rattle.read_tokens.specs.laws.Forward.{lexemes_at}
use Rattle.read_tokens.specs.laws.Tags.{kind-yes, kind-no}
use Rattle.read_syntax.specs.Reading.{before, lefts_in, lacks}
use Rattle.read_walks.specs.laws.Offences.{no_name, no-use, name-use, use-inside}
use Rattle.read_walks.proofs.lacking.Goals.{then-ne-via-then-ne, then-ne-via-else-ne+then-is_left}
use Rattle.read_walks.proofs.lacking.Goals as goal

pub returns-then-ne : goal.returns-then-ne
returns-then-ne c =
    elim c.then-ne.branch [
      | then-ne-via-then-ne w ↦ no_name c.args.mode c.args.text.now c.args.at c.args.t c.requires.0 (lefts_in (lexemes c.args.mode c.args.text.now)) (before
          (lexemes_at c.args.mode c.args.text.now (token_at c.args.mode c.args.text.now c.args.at).next)) (kind-no _ Name (not-true _ (sym c.ne.ensures ∙ w.if-ne.true)))
      | then-ne-via-else-ne+then-is_left w ↦ λ u q. no-use c.args.mode c.args.text.now c.args.at c.args.t c.requires.0 (lefts_in (lexemes c.args.mode c.args.text.now)) u ∙ ap (lacks
          (lefts_in (lexemes c.args.mode c.args.text.now)) u)
          (sym (ap (λ (i : ℕ). before (lexemes_at c.args.mode c.args.text.now i)) (sym (ap (λ (x : Token). x.next) c.requires.0)) ∙ sym w.is_left.ensures ∙ w.if-is_left.true))
    ]

pub has_rule-requires : goal.has_rule-requires
has_rule-requires c = (
  use-inside c.args.mode c.args.text.now c.args.at c.args.t c.requires.0 (lefts_in (lexemes c.args.mode c.args.text.now)) (kind-yes _ Name (not-false _ (sym c.ne.ensures ∙ c.if-ne.false))),
  c.requires.2,
)

pub returns : goal.returns
returns c = λ u q. ap not c.has_rule.ensures ∙ ap (λ (k : Kind). not (is_in same_symbol (symbol_by k (bytes_at c.args.text.now c.args.t.start c.args.t.size)) (lefts_in
    (lexemes c.args.mode c.args.text.now)))) (sym (kind-yes _ Name (not-false _ (sym c.ne.ensures ∙ c.if-ne.false)))) ∙ name-use c.args.mode c.args.text.now c.args.at c.args.t c.requires.0
    (lefts_in (lexemes c.args.mode c.args.text.now)) (kind-yes _ Name (not-false _ (sym c.ne.ensures ∙ c.if-ne.false))) u q ∙ ap (lacks (lefts_in (lexemes c.args.mode c.args.text.now)) u)
    (sym (ap (λ (i : ℕ). before (lexemes_at c.args.mode c.args.text.now i)) (sym (ap (λ (x : Token). x.next) c.requires.0)) ∙ sym c.is_left.ensures ∙ c.if-is_left.false))
