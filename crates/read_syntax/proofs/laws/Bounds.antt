-- Refusals 2 and 3 together: the leftmost place decides, then 2. Assumes nothing.
use Rattle.std.specs.Prelude.{ℕ, zero, suc, ◌+◌, ◌≤◌, ◌<◌, ◌≡◌, refl, Bool, true, false, cond, List, [], ◌∷◌, length, take}
use Rattle.std.proofs.Common.{sym, ap, ◌∙◌, subst, arith}
use Rattle.std.proofs.lemmas.Bool.{false≢true}
use Rattle.std.proofs.Math.Option.{Option, none, some}
use Rattle.read_tokens.specs.declared.Mode.{Mode}
use Rattle.read_tokens.specs.Token.{Tok, symbol, leaf, pre, suf, arrow, slash, opens, closes, bad, Lexeme}
use Rattle.read_tokens.specs.Tokens.{toks_of}
use Rattle.grammar.specs.Syntax.{Offends}
use Rattle.read_syntax.specs.Machine.{State, start, head, need, bound, prim, part, maybe, close, new_rule, after, step, accepting, state_after, accepts, over, open_in, Judged, fine, syntax, wide, judge_by, judge}
pub use Rattle.read_syntax.specs.Offence.{fewer, opened, Judges}
unfoldable pub use Rattle.read_syntax.specs.Offence.{over_at}
use Rattle.read_syntax.proofs.laws.Back.{grammar}
use Rattle.read_syntax.proofs.laws.Place.{live-viable, Dies, runs-step, dies-end, dies-here, dies-on, viable-take, one_place, offends-not, dies-offends}

-- the automaton's counter counts what is open
abbrev Counts : ℕ → Option State → Type 0
Counts d none = Unit {0}
Counts d (some s) = open_in s ≡ d

counts : (s : State) (t : Tok) → Counts (opened (open_in s) t) (step s t)
unfolding step after close new_rule
counts start (symbol h) = refl
counts start (leaf y) = tt
counts start (pre y) = tt
counts start (suf y) = tt
counts start arrow = tt
counts start slash = tt
counts start opens = tt
counts start closes = tt
counts start bad = tt
counts head (symbol h) = tt
counts head (leaf y) = tt
counts head (pre y) = tt
counts head (suf y) = tt
counts head arrow = refl
counts head slash = tt
counts head opens = tt
counts head closes = tt
counts head bad = tt
counts (need d) (symbol h) = refl
counts (need d) (leaf y) = refl
counts (need d) (pre y) = refl
counts (need d) (suf y) = tt
counts (need d) arrow = tt
counts (need d) slash = tt
counts (need d) opens = refl
counts (need d) closes = tt
counts (need d) bad = tt
counts (bound d) (symbol h) = refl
counts (bound d) (leaf y) = refl
counts (bound d) (pre y) = tt
counts (bound d) (suf y) = tt
counts (bound d) arrow = tt
counts (bound d) slash = tt
counts (bound d) opens = refl
counts (bound d) closes = tt
counts (bound d) bad = tt
counts (prim d) (symbol h) = refl
counts (prim d) (leaf y) = refl
counts (prim d) (pre y) = refl
counts (prim d) (suf y) = refl
counts (prim d) arrow = tt
counts (prim d) slash = refl
counts (prim d) opens = refl
counts (prim zero) closes = tt
counts (prim (suc d)) closes = refl
counts (prim d) bad = tt
counts (part d) (symbol h) = refl
counts (part d) (leaf y) = refl
counts (part d) (pre y) = refl
counts (part d) (suf y) = tt
counts (part d) arrow = tt
counts (part d) slash = refl
counts (part d) opens = refl
counts (part zero) closes = tt
counts (part (suc d)) closes = refl
counts (part d) bad = tt
counts (maybe d) (symbol h) = refl
counts (maybe d) (leaf y) = refl
counts (maybe d) (pre y) = refl
counts (maybe d) (suf y) = refl
counts (maybe zero) arrow = refl
counts (maybe (suc d)) arrow = tt
counts (maybe d) slash = refl
counts (maybe d) opens = refl
counts (maybe zero) closes = tt
counts (maybe (suc d)) closes = refl
counts (maybe d) bad = tt

-- the same from any state, counted from k
abbrev From : Mode → ℕ → State → List Lexeme → Judged → Type 0
From m i s xs fine = (accepts (state_after (some s) (toks_of xs)) ≡ true) × ((j : ℕ) → over_at m (open_in s) xs j ≡ false)
From m i s xs (syntax k) = (n : ℕ) × (k ≡ i + n) × Dies s (toks_of xs) n × ((j : ℕ) → j < n → over_at m (open_in s) xs j ≡ false)
From m i s xs (wide k) = (n : ℕ) × (k ≡ i + n) × (over_at m (open_in s) xs n ≡ true) × ((j : ℕ) → j < n → over_at m (open_in s) xs j ≡ false) × ((x : State) × (state_after (some s) (take (suc n) (toks_of xs)) ≡ some x))

from_end : (m : Mode) (i : ℕ) (s : State) (a : Bool) → accepting s ≡ a → From m i s [] (cond a fine (syntax i))
unfolding state_after over_at toks_of
from_end m i s true e = (e, λ j. refl)
from_end m i s false e = (0, omega arith, dies-end s e, λ j h. refl)

-- one token further
none_before : (m : Mode) (s s' : State) (x : Lexeme) (l : List Lexeme) → open_in s' ≡ opened (open_in s) x.is → over m (open_in s) x.is ≡ false → (n : ℕ)
    → ((j : ℕ) → j < n → over_at m (open_in s') l j ≡ false) → (j : ℕ) → j < suc n → over_at m (open_in s) (x ∷ l) j ≡ false
unfolding over_at
none_before m s s' x l e w n h zero i = w
none_before m s s' x l e w n h (suc j) i = rw (← e) (h j (omega arith))

none_at_all : (m : Mode) (s s' : State) (x : Lexeme) (l : List Lexeme) → open_in s' ≡ opened (open_in s) x.is → over m (open_in s) x.is ≡ false
    → ((j : ℕ) → over_at m (open_in s') l j ≡ false) → (j : ℕ) → over_at m (open_in s) (x ∷ l) j ≡ false
unfolding over_at
none_at_all m s s' x l e w h zero = w
none_at_all m s s' x l e w h (suc j) = rw (← e) (h j)

from_on : (m : Mode) (i : ℕ) (s s' : State) (x : Lexeme) (l : List Lexeme) → step s x.is ≡ some s' → open_in s' ≡ opened (open_in s) x.is → over m (open_in s) x.is ≡ false
    → (o : Judged) → From m (suc i) s' l o → From m i s (x ∷ l) o
unfolding over_at toks_of
from_on m i s s' x l e d w fine v = (ap accepts (runs-step s s' x.is e (toks_of l)) ∙ v.0, none_at_all m s s' x l d w v.1)
from_on m i s s' x l e d w (syntax k) v =
    (suc v.0, omega (arith, v.1), dies-on s s' x.is (toks_of l) v.0 e v.2, none_before m s s' x l d w v.0 v.3)
from_on m i s s' x l e d w (wide k) v =
    (suc v.0, omega (arith, v.1), rw (← d) v.2, none_before m s s' x l d w v.0 v.3, (v.4.0, runs-step s s' x.is e (take (suc v.0) (toks_of l)) ∙ v.4.1))

from : (m : Mode) (i : ℕ) (s : State) (xs : List Lexeme) → From m i s xs (judge m i s xs)
unfolding judge state_after over_at toks_of
from m i s [] = from_end m i s (accepting s) refl
from m i s (x ∷ l) = go (step s x.is) refl (counts s x.is) (over m (open_in s) x.is) refl (λ y. from m (suc i) y l)
  where
    go : (o : Option State) → step s x.is ≡ o → Counts (opened (open_in s) x.is) o → (w : Bool) → over m (open_in s) x.is ≡ w → ((y : State) → From m (suc i) y l (judge m (suc i) y l))
        → From m i s (x ∷ l) (judge_by o w i (λ y. judge m (suc i) y l))
    go none e d w f k = (0, omega arith, dies-here s x.is (toks_of l) e, λ j h. absurd (omega arith))
    go (some y) e d true f k = (0, omega arith, f, λ j h. absurd (omega arith), (y, e))
    go (some y) e d false f k = from_on m i s y x l e d f (judge m (suc i) y l) (k y)

same : (k j : ℕ) → (k < j → ⊥) → (j < k → ⊥) → k ≡ j
same k j p q = omega arith

over-within : (m : Mode) (d : ℕ) (l : List Lexeme) (k : ℕ) → over_at m d l k ≡ true → k < length (toks_of l)
unfolding over_at toks_of
over-within m d [] k e = absurd (false≢true e)
over-within m d (x ∷ l) zero e = omega arith
over-within m d (x ∷ l) (suc k) e = omega (arith, over-within m (opened d x.is) l k e)

later : (xs : List Lexeme) (k : ℕ) (s : State) → state_after (some start) (take (suc k) (toks_of xs)) ≡ some s → k < length (toks_of xs) → (j : ℕ) → Offends (toks_of xs) j → k < j
later xs k s e w j a =
    let f : j ≤ k → ⊥ = λ h. a.token (omega arith) (viable-take (toks_of xs) (suc j) (suc k) (omega arith) (live-viable (take (suc k) (toks_of xs)) e)) in
    omega arith

-- the answer is what the document says
pub judged : (m : Mode) (xs : List Lexeme) → Judges m xs (judge m 0 start xs)
judged m xs = go (judge m 0 start xs) (from m 0 start xs)
  where
    go : (o : Judged) → From m 0 start xs o → Judges m xs o
    go fine v = (grammar (toks_of xs) v.0, v.1)
    go (syntax k) v = let e : v.0 ≡ k = omega (arith, v.1) in (subst (Offends (toks_of xs)) e (dies-offends (toks_of xs) v.0 v.2), λ j h. v.3 j (omega (arith, v.1)))
    go (wide k) v = let e : v.0 ≡ k = omega (arith, v.1) in
        (subst (λ (n : ℕ). over_at m 0 xs n ≡ true) e v.2, λ j h. v.3 j (omega (arith, v.1)), λ j a. later xs k v.4.0 (subst (λ (n : ℕ). state_after (some start) (take (suc n) (toks_of xs)) ≡ some v.4.0) e v.4.1) (over-within m 0 xs k (subst (λ (n : ℕ). over_at m 0 xs n ≡ true) e v.2)) j a)

-- and no other answer is
pub one_answer : (m : Mode) (xs : List Lexeme) (o p : Judged) → Judges m xs o → Judges m xs p → o ≡ p
one_answer m xs fine fine u v = refl
one_answer m xs fine (syntax k) u v = absurd (offends-not (toks_of xs) k v.0 u.0)
one_answer m xs fine (wide k) u v = absurd (false≢true (sym (u.1 k) ∙ v.0))
one_answer m xs (syntax k) fine u v = absurd (offends-not (toks_of xs) k u.0 v.0)
one_answer m xs (syntax k) (syntax j) u v = ap syntax (one_place (toks_of xs) k j u.0 v.0)
one_answer m xs (syntax k) (wide j) u v = absurd (false≢true (sym (u.1 j (v.2 k u.0)) ∙ v.0))
one_answer m xs (wide k) fine u v = absurd (false≢true (sym (v.1 k) ∙ u.0))
one_answer m xs (wide k) (syntax j) u v = absurd (false≢true (sym (v.1 k (u.2 j v.0)) ∙ u.0))
one_answer m xs (wide k) (wide j) u v =
    let p : k < j → ⊥ = λ h. false≢true (sym (v.1 k h) ∙ u.0) in
    let q : j < k → ⊥ = λ h. false≢true (sym (u.1 j h) ∙ v.0) in
    ap wide (same k j p q)
