-- The names of an accepted grammar are distinct, and stay so as plain names: no name begins with `lake__` where lakes are. Assumes nothing.
use Rattle.std.specs.Prelude.{ℕ, zero, suc, ◌<◌, ◌≡◌, Bool, true, false, ◌||◌, length, get_or}
use Rattle.std.proofs.Math.Path.{refl}
use Rattle.std.proofs.Common.{sym, ap, ap₂, ◌∙◌, arith}
use mathlib.Core.List.{List, [], ◌∷◌, ◌++◌, map}
use Rattle.base_facts.specs.laws.Bools.{or-fails, or-holds}
use Rattle.read_tokens.specs.declared.Mode.{Mode}
use Rattle.read_tokens.specs.declared.Mode.TheVariants.{Lake, Plain}
use Rattle.read_tokens.specs.Token.{Symbol, name, lake}
use Rattle.grammar.specs.Exp.{Rule}
use Rattle.grammar.specs.Lakes.{plain_name}
use Rattle.grammar.specs.Same.{same_bytes, same_symbol, is_in, new_in}
use Rattle.grammar.specs.Numbers.{left_sides, uses_of, only_lakes, loose_lakes, symbols_of}
use Rattle.read_syntax.specs.Machine.{name_of}
use Rattle.read_syntax.specs.Reading.{starts_with, reserved}
use Rattle.grammar_table.specs.laws.Rows.{All}
use Rattle.read_grammar.specs.laws.Entries.{symbol-sound, symbol-refl}
use Rattle.write_text.specs.laws.Fit.{FitName}
use Rattle.write_back.specs.laws.Readable.{Distinct, Unreserved}

both_false : (a b : Bool) → a ≡ false → b ≡ false → (a || b) ≡ false
both_false a b e f = ap₂ ◌||◌ e f

-- ── left sides and the lakes behind them ──
abbrev Out : List Symbol → Symbol → Type 0
Out seen h = is_in same_symbol h seen ≡ false

out-on : (h x : Symbol) (seen : List Symbol) → Out (x ∷ seen) h → (same_symbol h x ≡ false) × Out seen h
unfolding is_in
out-on h x seen e = or-fails (same_symbol h x) (is_in same_symbol h seen) e

out-by : (h x : Symbol) (seen : List Symbol) → same_symbol h x ≡ false → Out seen h → Out (x ∷ seen) h
unfolding is_in
out-by h x seen e f = both_false (same_symbol h x) (is_in same_symbol h seen) e f

abbrev pick : Bool → Symbol → List Symbol → List Symbol → List Symbol
pick b x l m = elim b [ true ↦ l | false ↦ x ∷ m ]

new-distinct : (l seen also : List Symbol) → ((h : Symbol) → Out seen h → Out also h) → Distinct also (new_in same_symbol seen l)
unfolding new_in
new-distinct [] seen also f = tt
new-distinct (x ∷ l) seen also f =
    by (is_in same_symbol x seen) refl (new-distinct l seen also f)
    (new-distinct l (x ∷ seen) (x ∷ also) (λ h e. out-by h x also (out-on h x seen e).0 (f h (out-on h x seen e).1)))
  where
    by : (b : Bool) → is_in same_symbol x seen ≡ b → Distinct also (new_in same_symbol seen l) → Distinct (x ∷ also) (new_in same_symbol (x ∷ seen) l)
        → Distinct also (pick b x (new_in same_symbol seen l) (new_in same_symbol (x ∷ seen) l))
    by true e p q = p
    by false e p q = (f x e, q)

joined : (l m seen : List Symbol) → Distinct seen l → ((also : List Symbol) → ((h : Symbol) → Out l h → Out seen h → Out also h) → Distinct also m) → Distinct seen (l ++ m)
unfolding is_in
joined [] m seen d f = f seen (λ h a c. c)
joined (x ∷ l) m seen d f = (
  d.0,
  joined l m (x ∷ seen) d.1 (λ also q. f also (λ h a c. let u = or-fails (same_symbol h x) (is_in same_symbol h l) a in q h u.1 (both_false (same_symbol h x) (is_in same_symbol h seen) u.0 c))),
)

pub names-distinct : (rs : List Rule) → Distinct [] (left_sides rs) → Distinct [] (symbols_of rs)
unfolding symbols_of loose_lakes is_in
names-distinct rs d =
    joined (left_sides rs) (new_in same_symbol (left_sides rs) (only_lakes (uses_of rs))) [] d
    (λ also q. new-distinct (only_lakes (uses_of rs)) (left_sides rs) also (λ h e. q h e refl))

-- ── as plain names ──
abbrev pub Named : Mode → Symbol → Type 0
Named m h = FitName m h × Unreserved m h

lake-begins : (w : List ℕ) → starts_with (108 ∷ 97 ∷ 107 ∷ 101 ∷ 95 ∷ 95 ∷ []) (108 ∷ 97 ∷ 107 ∷ 101 ∷ 95 ∷ 95 ∷ w) ≡ true
unfolding starts_with
lake-begins w = refl

-- a name that is free is no lake's
no-lake : (v w : List ℕ) (x : Bool) → same_symbol (name v) (name (108 ∷ 97 ∷ 107 ∷ 101 ∷ 95 ∷ 95 ∷ w)) ≡ x → Unreserved Lake (name v) → x ≡ false
unfolding reserved
no-lake v w false e u = refl
no-lake v w true e u =
    let q : name v ≡ name (108 ∷ 97 ∷ 107 ∷ 101 ∷ 95 ∷ 95 ∷ w) = symbol-sound (name v) (name (108 ∷ 97 ∷ 107 ∷ 101 ∷ 95 ∷ 95 ∷ w)) e in
    sym (lake-begins w) ∙ sym (ap (λ (h : Symbol). starts_with (108 ∷ 97 ∷ 107 ∷ 101 ∷ 95 ∷ 95 ∷ []) (name_of h)) q) ∙ u

no-lake-back : (v w : List ℕ) (x : Bool) → same_symbol (name (108 ∷ 97 ∷ 107 ∷ 101 ∷ 95 ∷ 95 ∷ w)) (name v) ≡ x → Unreserved Lake (name v) → x ≡ false
unfolding reserved
no-lake-back v w false e u = refl
no-lake-back v w true e u =
    let q : name (108 ∷ 97 ∷ 107 ∷ 101 ∷ 95 ∷ 95 ∷ w) ≡ name v = symbol-sound (name (108 ∷ 97 ∷ 107 ∷ 101 ∷ 95 ∷ 95 ∷ w)) (name v) e in
    sym (lake-begins w) ∙ ap (λ (h : Symbol). starts_with (108 ∷ 97 ∷ 107 ∷ 101 ∷ 95 ∷ 95 ∷ []) (name_of h)) q ∙ u

apart : (m : Mode) (h y : Symbol) → Named m h → Named m y → same_symbol h y ≡ false → same_symbol (plain_name h) (plain_name y) ≡ false
unfolding plain_name same_symbol same_bytes
apart m (name v) (name w) p q e = e
apart Plain (lake v) y p q e = absurd p.0.0
apart Plain (name v) (lake w) p q e = absurd q.0.0
apart Lake (lake v) (lake w) p q e = e
apart Lake (name v) (lake w) p q e = no-lake v w (same_symbol (name v) (plain_name (lake w))) refl p.1
apart Lake (lake v) (name w) p q e = no-lake-back w v (same_symbol (plain_name (lake v)) (name w)) refl q.1

module _ (m : Mode) where
  out-plain : (h : Symbol) (seen : List Symbol) → Named m h → All (Named m) seen → Out seen h → Out (map plain_name seen) (plain_name h)
  unfolding is_in
  out-plain h [] p a e = refl
  out-plain h (x ∷ seen) p a e =
      let u = or-fails (same_symbol h x) (is_in same_symbol h seen) e in
      both_false (same_symbol (plain_name h) (plain_name x)) (is_in same_symbol (plain_name h) (map plain_name seen)) (apart m h x p a.0 u.0) (out-plain h seen p a.1 u.1)

  pub plain-distinct : (l seen : List Symbol) → All (Named m) l → All (Named m) seen → Distinct seen l → Distinct (map plain_name seen) (map plain_name l)
  plain-distinct [] seen a c d = tt
  plain-distinct (h ∷ l) seen a c d = (out-plain h seen a.0 c d.0, plain-distinct l (h ∷ seen) a.1 (a.0, c) d.1)

-- what stands at a place is in the list
pub in-at : (l : List Symbol) (i : ℕ) → i < length l → is_in same_symbol (get_or l i (name [])) l ≡ true
unfolding is_in
in-at [] i h = let z : ⊥ = omega arith in absurd z
in-at (x ∷ l) zero h = ap (λ (b : Bool). b || is_in same_symbol x l) (symbol-refl x)
in-at (x ∷ l) (suc i) h = or-holds (same_symbol (get_or l i (name [])) x) (is_in same_symbol (get_or l i (name [])) l) (in-at l i (omega arith))
