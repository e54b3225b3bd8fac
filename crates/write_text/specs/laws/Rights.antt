-- The right sides of a table by symbol, as the text goes over them. Assumes nothing.
use Rattle.std.specs.Prelude.{ℕ, suc, ◌+◌, ◌<◌, ◌≡◌, refl, List, [], ◌∷◌, length, get_or}
use Rattle.std.proofs.Common.{ap, ap₂, ◌∙◌, arith}
use Rattle.std.proofs.Math.Option.{Option, none}
use Rattle.grammar.specs.Exp.{Exp}
use Rattle.grammar.specs.Numbers.{Grammar}
use Rattle.grammar_table.specs.Table.{body_in, symbol_count}
use Rattle.grammar_table.specs.Holds.{Holds, present}
use Rattle.grammar.specs.Numbers.{terminal_in}
use Rattle.lake_step_one.specs.Proper.{SoundAll}
use Rattle.lake_step_one.proofs.laws.Held.{rights-long}
use Rattle.lake_calls.specs.laws.Rights.{right_is}
use Rattle.write_text.specs.steps.Texts.{rights_in}

are-rights : (t : List ℕ) (os : List (Option (Exp ℕ))) (r : ℕ) → ((i : ℕ) → i < length os → body_in t (r + i) ≡ get_or os i none) → rights_in t r (length os) ≡ os
unfolding rights_in
are-rights t [] r f = refl
are-rights t (o ∷ os) r f =
    ap₂ ◌∷◌ (ap (body_in t) (let z : r ≡ r + 0 = omega arith in z) ∙ f 0 (omega arith))
    (are-rights t os (suc r) (λ i l. ap (body_in t) (let z : suc r + i ≡ r + suc i = omega arith in z) ∙ f (suc i) (omega arith)))

pub rights-are : (t : List ℕ) (g : Grammar) (h : Holds t g) → SoundAll (terminal_in g) (length g.names) (length g.terminals) (present g.rights) → rights_in t 0 (symbol_count t) ≡ g.rights
rights-are t g h sound =
    ap (rights_in t 0) (rights-long t g h) ∙ are-rights t g.rights 0 (λ i l. ap (body_in t) (let z : 0 + i ≡ i = omega arith in z) ∙ right_is t g h sound i l)
