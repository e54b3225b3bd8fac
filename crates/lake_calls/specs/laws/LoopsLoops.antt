-- The marks, the first calls and the loop of a table's trees are those of the bodies that it holds. Assumes nothing.
use Rattle.std.specs.Prelude.{ℕ, zero, suc, ◌+◌, ◌≤◌, ◌<◌, ◌≡◌, refl, false, length, get_or, replicate}
use Rattle.std.proofs.Common.{sym, ◌∙◌, subst, arith}
use Rattle.std.proofs.Math.Path.{ap, fun_ext}
use Rattle.std.proofs.Math.Bool.{Bool}
use mathlib.Core.List.{List, [], ◌∷◌, map}
use Rattle.std.proofs.lemmas.List.{length-map}
use Rattle.std.proofs.Math.ListN.{get_or-map}
use Rattle.read_tokens.specs.Token.{Leaf, any}
use Rattle.grammar.specs.Exp.{Exp, ter}
use Rattle.grammar.specs.Numbers.{Grammar}
use Rattle.grammar_table.specs.Table.{up_to, name_in, symbol_word, symbol_count}
use Rattle.grammar.specs.Empty.{has_empty}
use Rattle.grammar_table.specs.Holds.{Holds}
use Rattle.base_rounds.specs.Rounds.{iter}
use Rattle.grammar.specs.Numbers.{terminal_in}
use Rattle.lake_rules.specs.Beginning.{marked, mark_round, marks_by, marks_of}
use Rattle.lake_step_one.specs.Proper.{Sound, SoundAll}
use Rattle.grammar_table.specs.laws.Places.{up_to-long, is-up_to}
use Rattle.lake_step_one.specs.steps.Made.{with_bodies}
use Rattle.lake_plain.specs.Calls.{first_calls, calls_of, loop_from, loop}
use Rattle.grammar_table.specs.Trees.{tree_of}
use Rattle.lake_calls.specs.steps.Firsts.{AllFirsts}
use Rattle.std.specs.Prelude.{Option as Optional, Some, None}
use Rattle.std.specs.Option.{unwrap_or}
use Rattle.lake_calls.specs.steps.Place.{placed, found}
use Rattle.lake_calls.specs.steps.Marks.{empty_round, SoundIn, AllMarks, Looped, LoopedAll}
use Rattle.lake_calls.specs.laws.Trees.{bodies-are, trees-are}

sound-at : (number : Leaf → ℕ) (r x : ℕ) (es : List (Exp ℕ)) (d : Exp ℕ) → SoundAll number r x es → (i : ℕ) → i < length es → Sound number r x (get_or es i d)
sound-at number r x [] d h i l = let z : ⊥ = omega arith in absurd z
sound-at number r x (e ∷ es) d h zero l = h.0
sound-at number r x (e ∷ es) d h (suc i) l = sound-at number r x es d h.1 i (omega arith)

module _ (t : List ℕ) (g : Grammar) (bodies : List (Exp ℕ)) (h : Holds t (with_bodies g bodies)) (sound : SoundAll (terminal_in g) (length g.names) (length g.terminals) bodies) (n : ℕ)
    (e : n ≡ length bodies) where
  by-body : {A : Type 0} (f : Exp ℕ → A) → up_to (λ i. f (tree_of t (symbol_word t i 1))) n ≡ map f bodies
  by-body f =
      sym (is-up_to (f (ter any)) (λ i. f (tree_of t (symbol_word t i 1))) (map f bodies) n (length-map bodies f ∙ sym e)
      (λ i l. get_or-map f bodies i (ter any) ∙ ap f (sym (trees-are t g bodies h sound i (omega arith)))))

  pub bodies-sound : SoundIn (terminal_in g) (length g.names) (length g.terminals) t n
  bodies-sound i l =
      subst (λ (b : Exp ℕ). Sound (terminal_in g) (length g.names) (length g.terminals) b) (sym (trees-are t g bodies h sound i (omega arith)))
      (sound-at (terminal_in g) (length g.names) (length g.terminals) bodies (ter any) sound i (omega arith))

  pub names-few : length g.names ≤ 64
  names-few = let q : symbol_count t ≡ length g.names = sym (up_to-long (name_in t) (symbol_count t)) ∙ ap length h.names in omega (arith, h.few-symbols)

  rounds-are : empty_round t n ≡ mark_round has_empty bodies
  unfolding mark_round
  rounds-are = fun_ext (λ (ms : List Bool). by-body (has_empty (marked ms)))

  -- the marks are those of the bodies
  pub marks-are : (ms : List Bool) → AllMarks t n ms → ms ≡ marks_of bodies
  unfolding marks_of marks_by
  marks-are ms a =
      a.are (terminal_in g) (length g.names) (length g.terminals) names-few bodies-sound
      ∙ ap (λ (f : List Bool → List Bool). iter f (replicate n false) n) rounds-are ∙ ap (λ (k : ℕ). iter (mark_round has_empty bodies) (replicate k false) k) e

  -- and so are the first calls
  pub calls_are : (ms : List Bool) (calls : List ℕ) → AllMarks t n ms → AllFirsts t (marked ms) n calls → calls ≡ calls_of bodies
  unfolding calls_of
  calls_are ms calls a c =
      c.are (terminal_in g) (length g.names) (length g.terminals) names-few bodies-sound
      ∙ by-body (first_calls (marked ms)) ∙ ap (λ (l : List Bool). map (first_calls (marked l)) bodies) (marks-are ms a)

  loop-of : (calls : List ℕ) → calls ≡ calls_of bodies → loop_from calls (length calls) 0 ≡ loop bodies
  unfolding loop
  loop-of calls c =
      ap (λ (l : List ℕ). loop_from l (length l) 0) c

pub looped : (t : List ℕ) (n m : ℕ) (at : Optional ℕ) (ms : List Bool) (calls : List ℕ) → m ≡ n → AllMarks t m ms → AllFirsts t (marked ms) n calls
    → found at ≡ loop_from calls (length calls) 0 → Looped t n at
looped t n m at ms calls q a c z =
    record { is = λ g bodies h sound e. z ∙ loop-of t g bodies h sound n e calls (calls_are t g bodies h sound n e ms calls (subst (λ (k : ℕ). AllMarks t k ms) q a) c) }

-- as many symbols as the table has
pub looped-all : (t : List ℕ) (n : ℕ) (at : Optional ℕ) → n ≡ symbol_count t → Looped t n at → LoopedAll t (unwrap_or at n)
looped-all t n at e l = record {
  is = λ g bodies h sound. let m : n ≡ length bodies = e ∙ bodies-are t g bodies h in
      ap (λ (k : ℕ). unwrap_or at k) m ∙ told (length bodies) at ∙ ap (placed (length bodies)) (l.is g bodies h sound m);
}
  where
    told : (k : ℕ) (o : Optional ℕ) → unwrap_or o k ≡ placed k (found o)
    told k None = refl
    told k (Some r) = refl
