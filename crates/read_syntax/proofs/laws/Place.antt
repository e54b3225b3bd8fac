-- `offends` is the document's place: the first token at which what stands before could still begin a grammar and with it could not. Assumes nothing.
use Rattle.std.specs.Prelude.{ℕ, zero, suc, ◌+◌, ◌≤◌, ◌<◌, ◌≡◌, refl, Bool, true, false, cond, List, [], ◌∷◌, ◌++◌, ◌↔◌, ◌⊎◌, length, take, drop}
use Rattle.std.proofs.Common.{sym, ap, ◌∙◌, subst, append_assoc, append-nil, inl, inr, arith, eq-or-lt_of_le, take-append-drop, take-take}
use Rattle.std.proofs.lemmas.Bool.{false≢true}
use Rattle.std.proofs.Math.Option.{Option, none, some}
use Rattle.read_tokens.specs.Token.{Tok}
use Rattle.grammar.specs.Syntax.{Grammatical, Viable, Offends}
use Rattle.read_syntax.specs.Machine.{State, start, head, need, bound, prim, part, maybe, close, after, step, accepting, state_after, accepts, alive, offends_from, offends, closing, finish}
use Rattle.read_syntax.proofs.laws.Forth.{runs_append, runs-dead, accepted}
use Rattle.read_syntax.proofs.laws.Back.{grammar}

-- every state can be finished
closes-all : (d : ℕ) → accepts (state_after (some (prim d)) (closing d)) ≡ true
unfolding state_after step after close accepting
closes-all zero = refl
closes-all (suc d) = closes-all d

pub finishes : (s : State) → accepts (state_after (some s) (finish s)) ≡ true
unfolding state_after step after close accepting finish
finishes start = refl
finishes head = refl
finishes (need d) = closes-all d
finishes (bound d) = closes-all d
finishes (prim d) = closes-all d
finishes (part zero) = refl
finishes (part (suc d)) = closes-all d
finishes (maybe zero) = refl
finishes (maybe (suc d)) = closes-all d

-- alive and viable are the same
pub live-viable : (ts : List Tok) {s : State} → state_after (some start) ts ≡ some s → Viable ts
live-viable ts {s} e = (finish s, grammar (ts ++ finish s) (ap accepts (runs_append (some start) ts (finish s) ∙ ap (λ (o : Option State). state_after o (finish s)) e) ∙ finishes s))

pub viable-live : (ts : List Tok) → Viable ts → (s : State) × (state_after (some start) ts ≡ some s)
viable-live ts v = go (state_after (some start) ts) refl
  where
    go : (o : Option State) → state_after (some start) ts ≡ o → (s : State) × (state_after (some start) ts ≡ some s)
    go (some s) e = (s, e)
    go none e = absurd (false≢true (sym (ap accepts (runs_append (some start) ts v.0 ∙ ap (λ (o : Option State). state_after o v.0) e ∙ runs-dead v.0)) ∙ accepted (ts ++ v.0) v.1))

pub dead-not-viable : (ts : List Tok) → state_after (some start) ts ≡ none → ¬ Viable ts
dead-not-viable ts e v = let x = viable-live ts v in let z : ◌≡◌ {A = ℕ} 0 1 = cc x.1 in omega arith

-- where the automaton dies
pub record Dies (s : State) (l : List Tok) (k : ℕ) : Type 0 where
  pub within : k ≤ length l
  pub lives : (x : State) × (state_after (some s) (take k l) ≡ some x)
  pub token : k < length l → state_after (some s) (take (suc k) l) ≡ none
  pub end : k ≡ length l → accepts (state_after (some s) l) ≡ false

pub runs-step : (s s' : State) (t : Tok) → step s t ≡ some s' → (w : List Tok) → state_after (some s) (t ∷ w) ≡ state_after (some s') w
unfolding state_after
runs-step s s' t e w = ap (λ (o : Option State). state_after o w) e

-- at the end; at the first token; behind it
pub dies-end : (s : State) → accepting s ≡ false → Dies s [] 0
unfolding state_after
dies-end s e = record { within = omega arith; lives = (s, refl); token = λ h. absurd (omega arith); end = λ h. e }

pub dies-here : (s : State) (t : Tok) (l : List Tok) → step s t ≡ none → Dies s (t ∷ l) 0
unfolding state_after
dies-here s t l e = record { within = omega arith; lives = (s, refl); token = λ h. e; end = λ h. absurd (omega arith) }

pub dies-on : (s s' : State) (t : Tok) (l : List Tok) (n : ℕ) → step s t ≡ some s' → Dies s' l n → Dies s (t ∷ l) (suc n)
dies-on s s' t l n e d =
    record {
      within = omega (arith, d.within);
      lives = (d.lives.0, runs-step s s' t e (take n l) ∙ d.lives.1);
      token = λ h. runs-step s s' t e (take (suc n) l) ∙ d.token (omega arith);
      end = λ h. ap accepts (runs-step s s' t e l) ∙ d.end (omega arith);
    }

abbrev Verdict : ℕ → State → List Tok → Option ℕ → Type 0
Verdict b s l none = accepts (state_after (some s) l) ≡ true
Verdict b s l (some k) = (j : ℕ) × (k ≡ b + j) × Dies s l j

verdict-end : (b : ℕ) (s : State) (x : Bool) → accepting s ≡ x → Verdict b s [] (cond x none (some b))
unfolding state_after
verdict-end b s true e = e
verdict-end b s false e = (0, omega arith, dies-end s e)

moved : (b : ℕ) (s s' : State) (t : Tok) (l : List Tok) → step s t ≡ some s' → (o : Option ℕ) → Verdict (suc b) s' l o → Verdict b s (t ∷ l) o
moved b s s' t l e none v = ap accepts (runs-step s s' t e l) ∙ v
moved b s s' t l e (some k) v = (suc v.0, omega (arith, v.1), dies-on s s' t l v.0 e v.2)

verdict : (b : ℕ) (s : State) (l : List Tok) → Verdict b s l (offends_from b s l)
unfolding offends_from
verdict b s [] = verdict-end b s (accepting s) refl
verdict b s (t ∷ l) = go (step s t) refl (λ x. verdict (suc b) x l)
  where
    go : (o : Option State) → step s t ≡ o → ((x : State) → Verdict (suc b) x l (offends_from (suc b) x l)) → Verdict b s (t ∷ l) (alive o b (λ x. offends_from (suc b) x l))
    go none e k = (0, omega arith, dies-here s t l e)
    go (some x) e k = moved b s x t l e (offends_from (suc b) x l) (k x)

-- what begins a viable text is viable
pub viable-prefix : (v w : List Tok) → Viable (v ++ w) → Viable v
viable-prefix v w x = (w ++ x.0, (x.1.0, x.1.1 ∙ append_assoc v w x.0))

pub viable-take : (ts : List Tok) (i k : ℕ) → i ≤ k → Viable (take k ts) → Viable (take i ts)
viable-take ts i k h v =
    viable-prefix (take i ts) (drop i (take k ts)) (subst Viable (sym (take-append-drop i (take k ts)) ∙ ap (λ (l : List Tok). l ++ drop i (take k ts)) (take-take i k ts h)) v)

pub grammar-viable : (ts : List Tok) → Grammatical ts → Viable ts
grammar-viable ts g = ([], (g.0, g.1 ∙ sym (append-nil ts)))

-- the automaton is alive after k tokens just where they can still begin a grammar
pub alive-iff : (ts : List Tok) (k : ℕ) → Viable (take k ts) ↔ ((s : State) × (state_after (some start) (take k ts) ≡ some s))
alive-iff ts k = (viable-live (take k ts), λ x. live-viable (take k ts) x.1)

-- the document's place is one place at most, and is none in a grammar
lt_not : (ts : List Tok) (k j : ℕ) → Offends ts k → Offends ts j → ¬ (k < j)
lt_not ts k j a b h = a.token (omega (arith, b.within)) (viable-take ts (suc k) j (omega arith) b.before)

pub one_place : (ts : List Tok) (k j : ℕ) → Offends ts k → Offends ts j → k ≡ j
one_place ts k j a b = let p = lt_not ts k j a b in let q = lt_not ts j k b a in omega arith

pub offends-not : (ts : List Tok) (k : ℕ) → Offends ts k → ¬ Grammatical ts
offends-not ts k a g = go (eq-or-lt_of_le a.within)
  where
    go : (k ≡ length ts) ⊎ (k < length ts) → ⊥
    go (inl e) = a.end e g
    go (inr h) = a.token h (viable-prefix (take (suc k) ts) (drop (suc k) ts) (subst Viable (sym (take-append-drop (suc k) ts)) (grammar-viable ts g)))

pub dies-offends : (ts : List Tok) (k : ℕ) → Dies start ts k → Offends ts k
dies-offends ts k d = record {
  within = d.within;
  before = live-viable (take k ts) d.lives.1;
  token = λ h. dead-not-viable (take (suc k) ts) (d.token h);
  end = λ e g. false≢true (sym (d.end e) ∙ accepted ts g);
}

offends-place : (ts : List Tok) (k : ℕ) → offends ts ≡ some k → Offends ts k
offends-place ts k e = let v : Verdict 0 start ts (some k) = subst (Verdict 0 start ts) e (verdict 0 start ts) in
    dies-offends ts k (subst (Dies start ts) (omega (arith, v.1)) v.2)

offends-none : (ts : List Tok) → offends ts ≡ none → Grammatical ts
offends-none ts e = grammar ts (subst (Verdict 0 start ts) e (verdict 0 start ts))

-- the automaton's place is the document's (01, Refusal numbers, 2), and there is none in a grammar
pub place : (ts : List Tok) (k : ℕ) → (offends ts ≡ some k) ↔ Offends ts k
place ts k = (offends-place ts k, λ a. go a (offends ts) refl)
  where
    go : Offends ts k → (o : Option ℕ) → offends ts ≡ o → offends ts ≡ some k
    go a none e = absurd (offends-not ts k a (offends-none ts e))
    go a (some j) e = e ∙ ap some (one_place ts j k (offends-place ts j e) a)

pub no_place : (ts : List Tok) → (offends ts ≡ none) ↔ Grammatical ts
no_place ts = (offends-none ts, λ g. go g (offends ts) refl)
  where
    go : Grammatical ts → (o : Option ℕ) → offends ts ≡ o → offends ts ≡ none
    go g none e = e
    go g (some k) e = absurd (offends-not ts k (offends-place ts k e) g)
