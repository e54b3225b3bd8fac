-- A symbol of a lake grammar, by its name in plain mode, can be written there; so can an expression with such names. Assumes nothing.
use Rattle.std.specs.Prelude.{ℕ, refl, List, [], ◌∷◌}
use Rattle.read_tokens.specs.Kinds.{one_of, ranges, kind_at}
use Rattle.read_tokens.specs.declared.Mode.{Mode}
use Rattle.read_tokens.specs.declared.Mode.TheVariants.{Lake, Plain}
use Rattle.read_tokens.specs.Token.{Symbol, name, lake}
use Rattle.read_tokens.specs.laws.Forward.{letter-name}
use Rattle.grammar.specs.Exp.{Exp, sym, ter, seq, alt, opt, star, plus, ahead, never, rename}
use Rattle.grammar.specs.Lakes.{plain_name}
use Rattle.write_rules.proofs.laws.Terminals.{AllName, FineName, FineSymbol}
use Rattle.write_rules.proofs.laws.Trip.{FineExpr}

all-name : (w : List ℕ) → FineName w → AllName w
all-name [] f = absurd f
all-name (b ∷ w) f = (letter-name b f.0, f.1)

pub name-plain : (h : Symbol) → FineSymbol Lake h → FineSymbol Plain (plain_name h)
unfolding plain_name kind_at one_of ranges
name-plain (name w) f = f
name-plain (lake w) f = (refl, (refl, (refl, (refl, (refl, (refl, all-name w f))))))

pub expr-plain : (e : Exp Symbol) → FineExpr Lake e → FineExpr Plain (rename plain_name e)
unfolding rename
expr-plain (sym h) f = name-plain h f
expr-plain (ter x) f = f
expr-plain (seq a b) f = (expr-plain a f.0, expr-plain b f.1)
expr-plain (alt a b) f = (expr-plain a f.0, expr-plain b f.1)
expr-plain (opt a) f = expr-plain a f
expr-plain (star a) f = expr-plain a f
expr-plain (plus a) f = expr-plain a f
expr-plain (ahead a) f = expr-plain a f
expr-plain (never a) f = expr-plain a f
