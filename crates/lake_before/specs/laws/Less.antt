-- A body that is less than another: no larger, and with no ε and no first call that the other has not. Bodies that are less make the plain grammar no larger,
-- and no loop is new. Assumes nothing.
use Rattle.std.specs.Prelude.{ℕ, zero, suc, ◌+◌, ◌≤◌, ◌<◌, ◌≡◌, refl, ◌⊎◌, Bool, true, false, ◌||◌, List, [], ◌∷◌, length, get_or}
use Rattle.std.proofs.Common.{ap, ◌∙◌, sym as flip, inl, inr, ⊎_elim, arith}
use Rattle.std.proofs.lemmas.Bool.{false≢true}
use Rattle.std.proofs.Math.Option.{none}
use Rattle.std.proofs.Math.ListN.{get_or-eq_default}
use Rattle.base_facts.specs.laws.Bools.{and_right}
use Rattle.base_facts.specs.laws.Numbers.{lt-or-ge}
use Rattle.read_tokens.specs.Token.{any}
use Rattle.grammar.specs.Exp.{Exp, sym, ter, seq, alt, opt, star, plus, ahead, never, size}
use Rattle.grammar.specs.Empty.{has_empty}
use Rattle.grammar.specs.Lakes.{choice_of, skip_of}
use Rattle.grammar_table.specs.laws.Parts.{size-pos}
use Rattle.lake_rules.specs.Beginning.{marked, marks_of}
use Rattle.lake_rules.proofs.laws.Marks.{Imp, or-least, or_l, or_r, empty-mono, marks-least}
use Rattle.lake_plain.specs.Plain.{sizes}
use Rattle.lake_plain.specs.Calls.{loop}
use Rattle.lake_plain.specs.Loops.{Calls, FirstCalls, LeadsTo, at_once, and-on}
use Rattle.lake_plain.proofs.laws.Exact.{no-loop-exact}
use Rattle.lake_before.specs.laws.Fewer.{Among, done, keep, leave}

-- marks that are among others
abbrev Marked : (ℕ → Bool) → (ℕ → Bool) → Type 0
Marked m k = (r : ℕ) → Imp (m r) (k r)

pub record Less (e f : Exp ℕ) : Type 0 where
  pub small : size e ≤ size f
  pub calls : (m k : ℕ → Bool) → Marked m k → (x : ℕ) → Calls m e x → Calls k f x
  pub empties : (m : ℕ → Bool) → Imp (has_empty m e) (has_empty m f)

-- more marks, more calls
calls_mono : (m k : ℕ → Bool) → Marked m k → (e : Exp ℕ) (x : ℕ) → Calls m e x → Calls k e x
calls_mono m k h (sym r) x c = c
calls_mono m k h (ter l) x c = c
calls_mono m k h (seq a b) x (inl c) = inl (calls_mono m k h a x c)
calls_mono m k h (seq a b) x (inr c) = inr (empty-mono m k h a c.0, calls_mono m k h b x c.1)
calls_mono m k h (alt a b) x (inl c) = inl (calls_mono m k h a x c)
calls_mono m k h (alt a b) x (inr c) = inr (calls_mono m k h b x c)
calls_mono m k h (opt a) x c = calls_mono m k h a x c
calls_mono m k h (star a) x c = calls_mono m k h a x c
calls_mono m k h (plus a) x c = calls_mono m k h a x c
calls_mono m k h (ahead a) x c = calls_mono m k h a x c
calls_mono m k h (never a) x c = calls_mono m k h a x c

pub less-same : (e : Exp ℕ) → Less e e
less-same e = record { small = omega arith; calls = λ m k h x c. calls_mono m k h e x c; empties = λ m u. u }

-- `.` is less than whatever
pub less-any : (f : Exp ℕ) → Less (ter any) f
unfolding size has_empty
less-any f = record { small = size-pos f; calls = λ m k h x c. absurd c; empties = λ m u. absurd (false≢true u) }

pub less-left : (e a b : Exp ℕ) → Less e a → Less e (alt a b)
unfolding size has_empty
less-left e a b l = record {
  small = omega (arith, l.small);
  calls = λ m k h x c. inl (l.calls m k h x c);
  empties = λ m u. or_l (has_empty m a) (has_empty m b) (l.empties m u);
}

pub less-right : (e a b : Exp ℕ) → Less e b → Less e (alt a b)
unfolding size has_empty
less-right e a b l = record {
  small = omega (arith, l.small);
  calls = λ m k h x c. inr (l.calls m k h x c);
  empties = λ m u. or_r (has_empty m a) (has_empty m b) (l.empties m u);
}

pub less_both : (a b c d : Exp ℕ) → Less a c → Less b d → Less (alt a b) (alt c d)
unfolding size has_empty
less_both a b c d p q = record {
  small = omega (arith, p.small, q.small);
  calls = λ m k h x. ⊎_elim (λ u. inl (p.calls m k h x u)) (λ u. inr (q.calls m k h x u));
  empties = λ m. or-least (has_empty m a) (has_empty m b) (has_empty m c || has_empty m d) (λ u. or_l (has_empty m c) (has_empty m d) (p.empties m u))
      (λ u. or_r (has_empty m c) (has_empty m d) (q.empties m u));
}

-- ── `!(s1 / .. / sn) .` of fewer s ──
unfoldable weight : List (Exp ℕ) → ℕ
weight [] = 0
weight (a ∷ bs) = suc (size a + weight bs)

abbrev Some : (ℕ → Bool) → List (Exp ℕ) → ℕ → Type 0
Some m [] x = ⊥
Some m (a ∷ bs) x = Calls m a x ⊎ Some m bs x

choice-size : (a : Exp ℕ) (bs : List (Exp ℕ)) → size (choice_of a bs) ≡ size a + weight bs
unfolding choice_of size weight
choice-size a [] = omega arith
choice-size a (b ∷ bs) = omega (arith, choice-size (alt a b) bs)

choice-some : (m : ℕ → Bool) (a : Exp ℕ) (bs : List (Exp ℕ)) (x : ℕ) → Calls m (choice_of a bs) x → Calls m a x ⊎ Some m bs x
unfolding choice_of
choice-some m a [] x c = inl c
choice-some m a (b ∷ bs) x c = ⊎_elim (λ p. ⊎_elim (λ q. inl q) (λ q. inr (inl q)) p) (λ p. inr (inr p)) (choice-some m (alt a b) bs x c)

some-choice : (m : ℕ → Bool) (a : Exp ℕ) (bs : List (Exp ℕ)) (x : ℕ) → Calls m a x ⊎ Some m bs x → Calls m (choice_of a bs) x
unfolding choice_of
some-choice m a [] x (inl c) = c
some-choice m a [] x (inr c) = absurd c
some-choice m a (b ∷ bs) x (inl c) = some-choice m (alt a b) bs x (inl (inl c))
some-choice m a (b ∷ bs) x (inr (inl c)) = some-choice m (alt a b) bs x (inl (inr c))
some-choice m a (b ∷ bs) x (inr (inr c)) = some-choice m (alt a b) bs x (inr c)

among-weight : {ss us : List (Exp ℕ)} → Among ss us → weight ss ≤ weight us
unfolding weight
among-weight done = omega arith
among-weight (keep p) = omega (arith, among-weight p)
among-weight (leave p) = omega (arith, among-weight p)

among-some : (m k : ℕ → Bool) → Marked m k → (x : ℕ) {ss us : List (Exp ℕ)} → Among ss us → Some m ss x → Some k us x
among-some m k h x done c = c
among-some m k h x (keep {a = a} p) c = ⊎_elim (λ u. inl (calls_mono m k h a x u)) (λ u. inr (among-some m k h x p u)) c
among-some m k h x (leave p) c = inr (among-some m k h x p c)

skip-some : (m : ℕ → Bool) (ss : List (Exp ℕ)) (x : ℕ) → Calls m (skip_of ss) x → Some m ss x
unfolding skip_of
skip-some m [] x c = c
skip-some m (a ∷ bs) x (inl c) = choice-some m a bs x c
skip-some m (a ∷ bs) x (inr c) = absurd c.1

some-skip : (m : ℕ → Bool) (ss : List (Exp ℕ)) (x : ℕ) → Some m ss x → Calls m (skip_of ss) x
unfolding skip_of
some-skip m [] x c = c
some-skip m (a ∷ bs) x c = inl (some-choice m a bs x c)

skip-full : (m : ℕ → Bool) (ss : List (Exp ℕ)) → has_empty m (skip_of ss) ≡ true → ⊥
unfolding skip_of has_empty
skip-full m [] u = false≢true u
skip-full m (a ∷ bs) u = false≢true (and_right true false u)

skip-small : (ss us : List (Exp ℕ)) → weight ss ≤ weight us → size (skip_of ss) ≤ size (skip_of us)
unfolding skip_of size weight
skip-small [] us h = size-pos (skip_of us)
skip-small (a ∷ bs) [] h = absurd (omega arith)
skip-small (a ∷ bs) (c ∷ ds) h = omega (arith, choice-size a bs, choice-size c ds)

pub less-skip : (ss us : List (Exp ℕ)) → Among ss us → Less (skip_of ss) (skip_of us)
less-skip ss us p = record {
  small = skip-small ss us (among-weight p);
  calls = λ m k h x c. some-skip k us x (among-some m k h x p (skip-some m ss x c));
  empties = λ m u. absurd (skip-full m ss u);
}

-- ── body by body ──
pub data LessAll : List (Exp ℕ) → List (Exp ℕ) → Type 0 where
  none_left : LessAll [] []
  and_one : {e f : Exp ℕ} {es fs : List (Exp ℕ)} → Less e f → LessAll es fs → LessAll (e ∷ es) (f ∷ fs)

pub less-sizes : {es fs : List (Exp ℕ)} → LessAll es fs → sizes es ≤ sizes fs
unfolding sizes
less-sizes none_left = omega arith
less-sizes (and_one p q) = omega (arith, p.small, less-sizes q)

less-long : {es fs : List (Exp ℕ)} → LessAll es fs → length es ≡ length fs
less-long none_left = refl
less-long (and_one p q) = ap suc (less-long q)

less-at : {es fs : List (Exp ℕ)} → LessAll es fs → (r : ℕ) → Less (get_or es r (ter any)) (get_or fs r (ter any))
less-at none_left r = less-same (ter any)
less-at (and_one p q) zero = p
less-at (and_one p q) (suc r) = less-at q r

module _ (es fs : List (Exp ℕ)) (less : LessAll es fs) where
  -- the marks are the least, and the others would do
  marks-in : Marked (marked (marks_of es)) (marked (marks_of fs))
  marks-in r =
      ⊎_elim
      (λ (l : r < length es). (marks-least es).within (marks_of fs) ((marks-least fs).long ∙ flip (less-long less))
      (λ s q u. (marks-least fs).exact s (omega (arith, q, less-long less)) ∙ (less-at less s).empties (marked (marks_of fs)) u) r l)
      (λ (l : length es ≤ r) u. absurd (false≢true (flip (get_or-eq_default (marks_of es) false {n = r} (omega (arith, l, (marks-least es).long))) ∙ u)))
      (lt-or-ge r (length es))

  first-calls : (r x : ℕ) → FirstCalls es r x → FirstCalls fs r x
  first-calls r x c = (omega (arith, c.0, less-long less), (less-at less r).calls (marked (marks_of es)) (marked (marks_of fs)) marks-in x c.1)

  leads : {r x : ℕ} → LeadsTo (FirstCalls es) r x → LeadsTo (FirstCalls fs) r x
  leads {r} {x} (at_once h) = at_once (first-calls r x h)
  leads {r} {x} (and-on {y = y} t h) = and-on (leads t) (first-calls y x h)

  pub less-loops : loop fs ≡ none → loop es ≡ none
  less-loops h = (no-loop-exact es).1 (λ y t. (no-loop-exact fs).0 h y (leads t))
