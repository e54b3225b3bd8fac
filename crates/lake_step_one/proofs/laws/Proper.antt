-- A grammar whose right sides are sound has a sound intermediate form. Assumes nothing.
use Prim.Native.Nat.{ℕ, zero, suc}
use Rattle.std.specs.Prelude.{Bool, length, get_or}
use Rattle.std.proofs.Math.Bool.{true, false}
use mathlib.Core.List.{List, [], ◌∷◌}
use Rattle.std.proofs.Math.Option.{Option, none, some}
use Rattle.read_tokens.specs.Token.{Symbol, Leaf}
use Rattle.grammar.specs.Exp.{Exp}
use Rattle.grammar.specs.Lakes.{step_one}
use Rattle.grammar.specs.Numbers.{Grammar, is_lake}
use Rattle.grammar_table.specs.Holds.{present}
use Rattle.lake_step_one.specs.Intermediate.{intermediate, bodies_by, intermediate_by, water_in}
use Rattle.grammar.specs.Numbers.{terminal_in}
use Rattle.lake_step_one.specs.Proper.{Sound, SoundAll, ProperIn, Proper}

module _ (number : Leaf → ℕ) (r x : ℕ) where
  abbrev pub May : Option (Exp ℕ) → Type 0
  May none = Unit {0}
  May (some e) = Sound number r x e

  pub may_at : (os : List (Option (Exp ℕ))) → SoundAll number r x (present os) → (i : ℕ) → May (get_or os i none)
  unfolding present
  may_at [] h i = tt
  may_at (none ∷ os) h zero = tt
  may_at (none ∷ os) h (suc i) = may_at os h i
  may_at (some e ∷ os) h zero = h.0
  may_at (some e ∷ os) h (suc i) = may_at os h.1 i

  body-sound : (l : Bool) (w o : Option (Exp ℕ)) → May w → May o → May (intermediate_by l w o)
  unfolding step_one
  body-sound true none o h k = k
  body-sound true (some w) none h k = h
  body-sound true (some w) (some e) h k = (k, h)
  body-sound false w o h k = k

  one_more : (o : Option (Exp ℕ)) (os : List (Option (Exp ℕ))) → May o → SoundAll number r x (present os) → SoundAll number r x (present (o ∷ os))
  unfolding present
  one_more none os h k = k
  one_more (some e) os h k = (h, k)

  bodies-sound : (w : Option (Exp ℕ)) → May w → (hs : List Symbol) (os : List (Option (Exp ℕ))) → SoundAll number r x (present os) → SoundAll number r x (present (bodies_by w hs os))
  unfolding bodies_by present
  bodies-sound w h [] os k = tt
  bodies-sound w h (y ∷ hs) [] k = tt
  bodies-sound w h (y ∷ hs) (none ∷ os) k = one_more (intermediate_by (is_lake y) w none) (bodies_by w hs os) (body-sound (is_lake y) w none h tt) (bodies-sound w h hs os k)
  bodies-sound w h (y ∷ hs) (some e ∷ os) k = one_more (intermediate_by (is_lake y) w (some e)) (bodies_by w hs os) (body-sound (is_lake y) w (some e) h k.0) (bodies-sound w h hs os k.1)

pub proper-of : (g : Grammar) → ProperIn g → Proper g
unfolding intermediate water_in
proper-of g h =
    bodies-sound (terminal_in g) (length g.names) (length g.terminals) (water_in g) (may_at (terminal_in g) (length g.names) (length g.terminals) g.rights h _) g.names g.rights h
