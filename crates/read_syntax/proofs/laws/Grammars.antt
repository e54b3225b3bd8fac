-- A text is one grammar at most, and a grammar just where no token offends. Assumes nothing.
use Rattle.std.specs.Prelude.{ℕ, ◌≡◌, refl, List, ◌↔◌}
use Rattle.std.proofs.Common.{sym, ap, ◌∙◌}
use Rattle.std.proofs.Math.Option.{none}
use Rattle.read_tokens.specs.declared.Mode.{Mode}
use Rattle.read_tokens.specs.Tokens.{toks}
use Rattle.grammar.specs.Exp.{Rule}
use Rattle.grammar.specs.Trees.{trees}
use Rattle.read_syntax.specs.Machine.{offends}
use Rattle.read_syntax.specs.Grammar.{GrammarOf}
use Rattle.read_syntax.proofs.laws.Place.{no_place}
use Rattle.read_syntax.proofs.laws.Reads.{unambiguous}

pub one-grammar : (m : Mode) (s : List ℕ) (g g' : List Rule) → GrammarOf m s g → GrammarOf m s g' → g ≡ g'
one-grammar m s g g' a b = sym a.2 ∙ ap trees (unambiguous a.0 b.0 (a.1 ∙ sym b.1)) ∙ b.2

pub some-grammar : (m : Mode) (s : List ℕ) → (offends (toks m s) ≡ none) ↔ ((g : List Rule) × GrammarOf m s g)
some-grammar m s = (λ e. let w = (no_place (toks m s)).0 e in (trees w.0, (w.0, w.1, refl)), λ x. (no_place (toks m s)).1 (x.1.0, x.1.1))
