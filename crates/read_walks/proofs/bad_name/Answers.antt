use Prim.Native.Nat.{ℕ}
use mathlib.Core.Path.{sym, ap, ◌∙◌}
use native.Mathlib.Omega.{arith}
use borrow.Author.Tests.{not-true, not-false}
use Rattle.read_tokens.specs.declared.Token.{Token}
use Rattle.read_tokens.specs.Tokens.{token_at}
use Rattle.read_tokens.specs.laws.Forward.{lexemes_at}
use Rattle.read_tokens.specs.laws.Here.{here}
use Rattle.grammar.specs.Same.{same_symbol, is_in}
use Rattle.read_syntax.specs.Reading.{before}
use Rattle.read_walks.specs.steps.Names.{bytes_at, symbol_by, reserved_by, walk_to}
use Rattle.read_walks.specs.laws.Offences.{not-symbol, inside, reserved-here, used-here, left_here}
use Rattle.read_walks.proofs.bad_name.Goals as goal

pub returns-then-not-is_symbol : goal.returns-then-not-is_symbol
returns-then-not-is_symbol c =
    λ k e. not-symbol c.args.mode c.args.text.now c.args.at c.args.t c.requires.0 c.requires.1 (walk_to c.args.mode c.args.text.now k).seen (before (lexemes_at c.args.mode c.args.text.now
    (token_at c.args.mode c.args.text.now c.args.at).next)) (sym c.is_symbol.ensures ∙ not-true _ c.if-not-is_symbol.true-raw)

pub name_start-from-requires : goal.name_start-from-requires
name_start-from-requires c = omega (
  arith,
  (here c.args.mode c.args.text.now c.args.at c.args.t c.requires.0 c.requires.1).forth,
  (here c.args.mode c.args.text.now c.args.at c.args.t c.requires.0 c.requires.1).before-end,
  c.requires.2,
)

pub reserved_name-requires : goal.reserved_name-requires
reserved_name-requires c = omega (
  arith,
  inside c.args.mode c.args.text.now c.args.at c.args.t c.requires.0 c.requires.1 (sym c.is_symbol.ensures
      ∙ not-false _ c.if-not-is_symbol.false-raw),
  c.name_start-from.ensures,
)

pub returns-then-reserved_name : goal.returns-then-reserved_name
returns-then-reserved_name c = λ k e. reserved-here c.args.mode c.args.text.now c.args.at c.args.t c.requires.0 c.requires.1 (sym c.is_symbol.ensures
    ∙ not-false _ c.if-not-is_symbol.false-raw) (walk_to c.args.mode c.args.text.now k).seen (before (lexemes_at c.args.mode c.args.text.now (token_at c.args.mode c.args.text.now c.args.at).next))
    (ap (λ (i : ℕ). reserved_by c.args.mode (bytes_at c.args.text.now i c.args.t.size)) (sym c.name_start-from.ensures) ∙ sym c.reserved_name.ensures ∙ c.if-reserved_name.true)

pub invariant_of-symbol : goal.invariant_of-symbol
invariant_of-symbol c = record { symbol = sym c.is_symbol.ensures ∙ not-false _ c.if-not-is_symbol.false-raw }

pub left_before-requires : goal.left_before-requires
left_before-requires c = (
  omega (arith, inside c.args.mode c.args.text.now c.args.at c.args.t c.requires.0 c.requires.1 (sym c.is_symbol.ensures ∙ not-false _ c.if-not-is_symbol.false-raw), c.name_start-from.ensures),
  c.requires.2,
)

pub returns-then-is_left : goal.returns-then-is_left
returns-then-is_left c =
    λ k e u q. c.left_before.ensures.passed k e
    ∙ ap (λ (i : ℕ). is_in same_symbol (symbol_by c.args.t.kind (bytes_at c.args.text.now i c.args.t.size)) (walk_to c.args.mode c.args.text.now k).seen) c.name_start-from.ensures
    ∙ left_here c.args.mode c.args.text.now c.args.at c.args.t c.requires.0 c.requires.1 (sym c.is_symbol.ensures ∙ not-false _ c.if-not-is_symbol.false-raw)
    (walk_to c.args.mode c.args.text.now k).seen (before (lexemes_at c.args.mode c.args.text.now (token_at c.args.mode c.args.text.now c.args.at).next))
    (ap (λ (i : ℕ). reserved_by c.args.mode (bytes_at c.args.text.now i c.args.t.size)) (sym c.name_start-from.ensures) ∙ sym c.reserved_name.ensures ∙ c.if-reserved_name.false)
    (ap (λ (i : ℕ). before (lexemes_at c.args.mode c.args.text.now i)) (sym (ap (λ (x : Token). x.next) c.requires.0)) ∙ sym c.is_left.ensures ∙ c.if-is_left.true) u q

pub returns-else-is_left : goal.returns-else-is_left
returns-else-is_left c = λ k e u q. c.if-is_left.false ∙ used-here c.args.mode c.args.text.now c.args.at c.args.t c.requires.0 c.requires.1 (sym c.is_symbol.ensures
    ∙ not-false _ c.if-not-is_symbol.false-raw) (walk_to c.args.mode c.args.text.now k).seen (before (lexemes_at c.args.mode c.args.text.now (token_at c.args.mode c.args.text.now c.args.at).next))
    (ap (λ (i : ℕ). reserved_by c.args.mode (bytes_at c.args.text.now i c.args.t.size)) (sym c.name_start-from.ensures) ∙ sym c.reserved_name.ensures ∙ c.if-reserved_name.false)
    (ap (λ (i : ℕ). before (lexemes_at c.args.mode c.args.text.now i)) (sym (ap (λ (x : Token). x.next) c.requires.0)) ∙ sym c.is_left.ensures ∙ c.if-is_left.false) u q
