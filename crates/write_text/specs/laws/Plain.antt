-- The plain text: the text of the table that holds a grammar's translation is the text of its plain rules (01, Writing: "in plain, every symbol's"). Assumes nothing.
use Rattle.std.specs.Prelude.{ℕ, suc, ◌+◌, ◌≤◌, ◌<◌, ◌≡◌, length, get_or, replicate}
use Rattle.std.proofs.Math.Path.{refl, ap, ap₂}
use Rattle.std.proofs.Common.{sym, ◌∙◌, subst, arith, length-append}
use Rattle.std.proofs.Math.Bool.{true}
use mathlib.Core.List.{List, [], ◌∷◌, ◌++◌, map}
use Rattle.std.proofs.Math.Option.{Option, none, some}
use Rattle.std.proofs.lemmas.List.{length-map, length-replicate}
use Rattle.read_tokens.specs.declared.Mode.{Mode}
use Rattle.read_tokens.specs.Token.{Symbol, Leaf, name}
use Rattle.read_tokens.specs.laws.Bytes.{Bytes}
use Rattle.grammar.specs.Exp.{Exp, Rule, rename}
use Rattle.grammar.specs.Lakes.{plain_name}
use Rattle.grammar.specs.Syntax.{Rules}
use Rattle.grammar.specs.Trees.{trees}
use Rattle.grammar.specs.Numbers.{Grammar, left_sides, loose_lakes, symbols_of, right_by, numbered}
use Rattle.grammar_table.specs.Holds.{Holds, present}
use Rattle.lake_rules.specs.Analysis.{analysis}
use Rattle.grammar.specs.Numbers.{terminal_in}
use Rattle.lake_step_one.specs.Proper.{SoundAll}
use Rattle.lake_step_one.specs.Intermediate.{water_in, bodies_by, intermediate}
use Rattle.grammar_table.specs.laws.Parts.{present-some}
use Rattle.lake_step_one.specs.steps.Made.{with_bodies}
use Rattle.lake_step_one.proofs.laws.Next.{bodies-long as middle-bodies}
use Rattle.lake_plain.specs.Plain.{plain_bodies, rules_by, plain_rules}
use Rattle.lake_step_two.specs.steps.Stepped.{plain_of}
use Rattle.lake_step_two.proofs.laws.Bodies.{plain-long}
use Rattle.lake_step_two.proofs.laws.Once.{once-numbered}
use Rattle.lake_step_two.specs.laws.Proper.{plain-proper}
use Rattle.read_grammar.specs.steps.Promises.{Sound}
use Rattle.prepare.specs.laws.Dot.{dot-in}
use Rattle.prepare.specs.laws.Rights.{proper}
use Rattle.prepare.specs.laws.Terminals.{none-empty}
use Rattle.write_rules.specs.Writing.{text}
use Rattle.write_leaves.specs.steps.Printed.{low_leaf, called}
use Rattle.write_text.specs.steps.Texts.{rules_in, ruled, text_of}
use Rattle.write_text.specs.laws.Rights.{rights-are}
use Rattle.write_text.specs.laws.Called.{called_is, toned-is}
use Rattle.write_text.specs.laws.Own.{lefts-long}
use Rattle.write_text.specs.laws.Fit.{fit-name, name-bytes, low-leaves}

-- rules with a body for each symbol
module _ (number : Leaf → ℕ) (n x : ℕ) (f k : ℕ → Symbol) (same : (r : ℕ) → r < n → f r ≡ k r) (leaves : (y : Leaf) → number y < x → low_leaf y ≡ y) where
  every : (es : List (Exp ℕ)) (r : ℕ) → SoundAll number n x es → r + length es ≤ n → rules_in f r (map some es) ≡ rules_by k r es
  unfolding rules_in rules_by
  every [] r h l = refl
  every (e ∷ es) r h l =
      ap₂ (λ (a : Symbol) (b : Exp Symbol). record { left = a; right = b } ∷ rules_in f (suc r) (map some es)) (same r (omega arith)) (toned-is number n x f k same leaves e h.0)
      ∙ ap (λ (rs : List Rule). record { left = k r; right = rename k e } ∷ rs) (every es (suc r) h.1 (omega arith))

-- the names of the plain grammar
abbrev pub plain_names : Grammar → ℕ → Symbol
plain_names g r = plain_name (get_or g.names r (name []))

module _ (m : Mode) (s : List ℕ) (g : Rules) (sound : Sound m s g) where
  pub plain-sound : SoundAll (terminal_in (numbered (trees g))) (length (numbered (trees g)).names) (length (numbered (trees g)).terminals) (plain_of (numbered (trees g)))
  plain-sound = plain-proper (numbered (trees g)) (proper m s g sound) (once-numbered (trees g)) (none-empty m s g sound) (omega (arith, dot-in (trees g)))

-- a body for each symbol
rights-many : (rs : List Rule) → length (numbered rs).names ≡ length (numbered rs).rights
unfolding numbered symbols_of
rights-many rs =
    let k : length {A = Option (Exp ℕ)} (replicate (length (loose_lakes rs)) none) ≡ length (loose_lakes rs) = length-replicate (length (loose_lakes rs)) none in
    omega (arith, length-append (left_sides rs) (loose_lakes rs), lefts-long rs, length-append (map (right_by (left_sides rs ++ loose_lakes rs)) rs) (replicate (length (loose_lakes rs)) none), length-map rs (right_by (left_sides rs ++ loose_lakes rs)), k)

pub bodies-long : (rs : List Rule) → length (plain_of (numbered rs)) ≡ length (numbered rs).names
unfolding plain_bodies intermediate
bodies-long rs =
    let n : Grammar = numbered rs in
    let k : length (bodies_by (water_in n) n.names n.rights) ≡ length n.names = middle-bodies (water_in n) n.names n.rights (rights-many rs) in
    plain-long n (analysis n) n.names (bodies_by (water_in n) n.names n.rights) 0 (sym k) ∙ k

module _ (m : Mode) (s : List ℕ) (g : Rules) (b : Bytes s) (sound : Sound m s g) (t : List ℕ) (h : Holds t (with_bodies (numbered (trees g)) (plain_of (numbered (trees g))))) where
  abbrev n : Grammar
  n = numbered (trees g)

  abbrev w : Grammar
  w = with_bodies n (plain_of n)

  rights-sound : SoundAll (terminal_in n) (length n.names) (length n.terminals) (present (map some (plain_of n)))
  rights-sound = subst (SoundAll (terminal_in n) (length n.names) (length n.terminals)) (sym (present-some (plain_of n))) (plain-sound m s g sound)

  names-is : (r : ℕ) → r < length n.names → called true t r ≡ plain_names n r
  names-is r l = called_is true t w h r l (name-bytes m (get_or n.names r (name [])) (fit-name m s g b sound r l))

  -- THE LAW: a table that holds the translation is written as the plain rules
  pub plain-rules : ruled true t ≡ plain_rules n (analysis n)
  unfolding ruled plain_rules
  plain-rules =
      ap (rules_in (called true t) 0) (rights-are t w h rights-sound)
      ∙ every (terminal_in n) (length n.names) (length n.terminals) (called true t) (plain_names n) names-is (low-leaves m s g b sound) (plain_of n) 0 (plain-sound m s g sound) (omega (arith, bodies-long (trees g)))

  pub plain-text : text_of true t ≡ text (plain_rules n (analysis n))
  unfolding text_of
  plain-text = ap text plain-rules
