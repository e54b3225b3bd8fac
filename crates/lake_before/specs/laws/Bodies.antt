-- The intermediate bodies, now and before 02, §4, symbol by symbol: what a body is now was all of it or the first of a choice. What was is sound, too.
-- Assumes nothing.
use Rattle.std.specs.Prelude.{ℕ, suc, ◌<◌, ◌≡◌, refl, Bool, length}
use Rattle.std.proofs.Common.{sym, ap, ◌∙◌, subst, arith}
use Rattle.std.proofs.Math.Bool.{true, false}
use mathlib.Core.List.{List, [], ◌∷◌}
use Rattle.std.proofs.Math.Option.{Option, none, some}
use Rattle.std.proofs.lemmas.List.{length-map}
use Rattle.read_tokens.specs.Token.{Symbol, Leaf, any}
use Rattle.grammar.specs.Exp.{Exp, alt}
use Rattle.grammar.specs.Empty.{empty_leaf}
use Rattle.grammar.specs.Lakes.{step_one}
use Rattle.grammar.specs.Numbers.{Grammar, is_lake, terminal_in}
use Rattle.grammar_table.specs.Holds.{present}
use Rattle.grammar_table.specs.laws.Parts.{present-some}
use Rattle.lake_step_one.specs.Intermediate.{intermediate, intermediate_by, bodies_by, water_in}
use Rattle.lake_step_one.specs.Proper.{Sound, SoundAll, ProperIn}
use Rattle.lake_step_one.proofs.laws.Proper.{May, may_at}
use Rattle.lake_before.specs.Before.{water_before, body_before, bodies_before, middle_before}

-- a body now, and before
pub data Kin : Option (Exp ℕ) → Exp ℕ → Type 0 where
  none-now : {b : Exp ℕ} → Kin none b
  same : {e : Exp ℕ} → Kin (some e) e
  first_of : {e b : Exp ℕ} → Kin (some e) (alt e b)

pub data KinAll : List (Option (Exp ℕ)) → List (Exp ℕ) → Type 0 where
  none_left : KinAll [] []
  and_one : {o : Option (Exp ℕ)} {b : Exp ℕ} {os : List (Option (Exp ℕ))} {bs : List (Exp ℕ)} → Kin o b → KinAll os bs → KinAll (o ∷ os) (b ∷ bs)

kin : (l : Bool) (w o : Option (Exp ℕ)) → Kin (intermediate_by l w o) (body_before l w o)
unfolding step_one
kin true none none = none-now
kin true none (some e) = first_of
kin true (some w) none = same
kin true (some w) (some e) = same
kin false w none = none-now
kin false w (some e) = same

kin-all : (w : Option (Exp ℕ)) (hs : List Symbol) (os : List (Option (Exp ℕ))) → KinAll (bodies_by w hs os) (bodies_before w hs os)
unfolding bodies_by bodies_before
kin-all w [] os = none_left
kin-all w (h ∷ hs) [] = none_left
kin-all w (h ∷ hs) (o ∷ os) = and_one (kin (is_lake h) w o) (kin-all w hs os)

pub bodies-kin : (g : Grammar) → KinAll (intermediate g) (bodies_before (water_in g) g.names g.rights)
unfolding intermediate
bodies-kin g = kin-all (water_in g) g.names g.rights

-- ── what was is sound ──
module _ (number : Leaf → ℕ) (r x : ℕ) (dot : number any < x) where
  water-sound : (w : Option (Exp ℕ)) → May number r x w → Sound number r x (water_before w)
  unfolding empty_leaf
  water-sound none h = (dot, refl)
  water-sound (some w) h = h

  body-sound : (l : Bool) (w o : Option (Exp ℕ)) → May number r x w → May number r x o → Sound number r x (body_before l w o)
  unfolding empty_leaf
  body-sound true w none h k = water-sound w h
  body-sound true w (some e) h k = (k, water-sound w h)
  body-sound false w none h k = (dot, refl)
  body-sound false w (some e) h k = k

  before-sound : (w : Option (Exp ℕ)) → May number r x w → (hs : List Symbol) (os : List (Option (Exp ℕ))) → SoundAll number r x (present os) → SoundAll number r x (bodies_before w hs os)
  unfolding bodies_before present
  before-sound w h [] os k = tt
  before-sound w h (y ∷ hs) [] k = tt
  before-sound w h (y ∷ hs) (none ∷ os) k = (body-sound (is_lake y) w none h tt, before-sound w h hs os k)
  before-sound w h (y ∷ hs) (some e ∷ os) k = (body-sound (is_lake y) w (some e) h k.0, before-sound w h hs os k.1)

pub proper-before : (g : Grammar) → ProperIn g → terminal_in g any < length g.terminals → ProperIn (middle_before g)
unfolding water_in
proper-before g h dot =
    subst (SoundAll (terminal_in g) (length g.names) (length g.terminals)) (sym (present-some (bodies_before (water_in g) g.names g.rights)))
    (before-sound (terminal_in g) (length g.names) (length g.terminals) dot (water_in g)
    (may_at (terminal_in g) (length g.names) (length g.terminals) g.rights h _) g.names g.rights h)

-- ── every symbol had a body ──
pub before-long : (w : Option (Exp ℕ)) (hs : List Symbol) (os : List (Option (Exp ℕ))) → length os ≡ length hs → length (bodies_before w hs os) ≡ length hs
unfolding bodies_before
before-long w [] os h = refl
before-long w (x ∷ hs) [] h = absurd (omega arith)
before-long w (x ∷ hs) (o ∷ os) h = ap suc (before-long w hs os (omega arith))

pub middle-long : (g : Grammar) → length g.rights ≡ length g.names → length (middle_before g).rights ≡ length g.names
middle-long g long = length-map (bodies_before (water_in g) g.names g.rights) some ∙ before-long (water_in g) g.names g.rights long
