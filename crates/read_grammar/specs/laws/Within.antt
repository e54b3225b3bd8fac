-- What a text holds that refusals 3 lets through fits into its records. Assumes nothing.
use Rattle.std.specs.Prelude.{ℕ, zero, suc, ◌≤◌, ◌≡◌, refl, Bool, true, false, ltb, length, ◌||◌}
use Rattle.std.proofs.Common.{sym, ap, ◌∙◌, subst, arith, ltb-false}
use Rattle.std.proofs.lemmas.Bool.{false≢true}
use mathlib.Core.List.{List, [], ◌∷◌, ◌++◌}
use Rattle.std.proofs.Math.Option.{Option, none, some}
use Rattle.read_tokens.specs.declared.Mode.{Mode}
use Rattle.read_tokens.specs.declared.Mode.TheVariants.{Lake, Plain}
use Rattle.read_tokens.specs.Token.{Symbol, name, lake, any, literal, class, Tok, symbol, leaf, pre, suf, arrow, slash, opens, closes, bad, Lexeme}
use Rattle.read_tokens.specs.Bounds.{name_bound, literal_bound}
use Rattle.read_tokens.specs.Tokens.{token_at, toks_of, toks, lexemes, lexemes_from, by_end}
use Rattle.read_tokens.specs.steps.Code.{Class}
use Rattle.read_tokens.specs.laws.Again.{class-again}
use Rattle.read_tokens.specs.laws.Classes.{at-256}
use Rattle.grammar.specs.Same.{is_in}
use Rattle.read_syntax.specs.Machine.{State, Judged, fine, syntax, wide, step, over, open_in, judge_by, judge}
use Rattle.grammar_table.specs.laws.Rows.{also, adds, also-in, also-new, All}
use Rattle.read_entries.specs.steps.Entries.{FitSymbol, FitLeaf}
use Rattle.read_grammar.specs.steps.Lay.{gather_by, gathered}
use Rattle.read_grammar.specs.laws.Symbols.{leaves}
use Rattle.read_syntax.specs.Reader.{is_arrow}

-- ── a class has 256 marks ──
abbrev Marked256 : Tok → Type 0
Marked256 (symbol h) = Unit {0}
Marked256 (leaf any) = Unit {0}
Marked256 (leaf (literal w)) = Unit {0}
Marked256 (leaf (class l)) = length l ≡ 256
Marked256 (pre x) = Unit {0}
Marked256 (suf x) = Unit {0}
Marked256 arrow = Unit {0}
Marked256 slash = Unit {0}
Marked256 opens = Unit {0}
Marked256 closes = Unit {0}
Marked256 bad = Unit {0}

token-256 : (m : Mode) (s : List ℕ) (at : ℕ) (t : Tok) → (token_at m s at).is ≡ some t → Marked256 t
token-256 m s at (symbol h) e = tt
token-256 m s at (leaf any) e = tt
token-256 m s at (leaf (literal w)) e = tt
token-256 m s at (leaf (class l)) e = sym (ap (λ (c : Class). length c.marks) (class-again m s at l e)) ∙ at-256 m s (token_at m s at).start
token-256 m s at (pre x) e = tt
token-256 m s at (suf x) e = tt
token-256 m s at arrow e = tt
token-256 m s at slash e = tt
token-256 m s at opens e = tt
token-256 m s at closes e = tt
token-256 m s at bad e = tt

all-256 : (f : ℕ) (m : Mode) (s : List ℕ) (at : ℕ) → All Marked256 (toks_of (lexemes_from f m s at))
unfolding lexemes_from toks_of
all-256 zero m s at = tt
all-256 (suc f) m s at = by (token_at m s at).is refl (all-256 f m s (token_at m s at).next)
  where
    by : (o : Option Tok) → (token_at m s at).is ≡ o → All Marked256 (toks_of (lexemes_from f m s (token_at m s at).next))
        → All Marked256 (toks_of (by_end o (token_at m s at).start (token_at m s at).next (λ n. lexemes_from f m s n)))
    by none e h = tt
    by (some t) e h = (token-256 m s at t e, h)

-- ── names and literals ──
abbrev pub FitTok : Tok → Type 0
FitTok (symbol h) = FitSymbol h
FitTok (leaf x) = FitLeaf x
FitTok (pre x) = Unit {0}
FitTok (suf x) = Unit {0}
FitTok arrow = Unit {0}
FitTok slash = Unit {0}
FitTok opens = Unit {0}
FitTok closes = Unit {0}
FitTok bad = Unit {0}

name-bound : (m : Mode) → name_bound m ≤ 38
unfolding name_bound
name-bound Lake = omega arith
name-bound Plain = omega arith

literal-bound : (n : ℕ) → ltb literal_bound n ≡ false → n ≤ 256
unfolding literal_bound
literal-bound n e = omega (arith, ltb-false literal_bound n e)

fit-token : (m : Mode) (d : ℕ) (t : Tok) → over m d t ≡ false → Marked256 t → FitTok t
unfolding over FitSymbol FitLeaf
fit-token m d (symbol (name w)) e h = omega (arith, name-bound m, ltb-false (name_bound m) (length w) e)
fit-token m d (symbol (lake w)) e h = omega (arith, name-bound m, ltb-false (name_bound m) (length w) e)
fit-token m d (leaf any) e h = tt
fit-token m d (leaf (literal w)) e h = literal-bound (length w) e
fit-token m d (leaf (class l)) e h = h
fit-token m d (pre x) e h = tt
fit-token m d (suf x) e h = tt
fit-token m d arrow e h = tt
fit-token m d slash e h = tt
fit-token m d opens e h = tt
fit-token m d closes e h = tt
fit-token m d bad e h = tt

abbrev is_fine : Judged → Bool
is_fine fine = true
is_fine (syntax k) = false
is_fine (wide k) = false

fine-inv : (o : Option State) (w : Bool) (k : ℕ) (f : State → Judged) → judge_by o w k f ≡ fine → (w ≡ false) × (s : State) × (f s ≡ fine)
fine-inv none w k f e = absurd (false≢true (ap is_fine e))
fine-inv (some s) true k f e = absurd (false≢true (ap is_fine e))
fine-inv (some s) false k f e = (refl, s, e)

judge-fits : (m : Mode) (k : ℕ) (s : State) (xs : List Lexeme) → judge m k s xs ≡ fine → All Marked256 (toks_of xs) → All FitTok (toks_of xs)
unfolding judge toks_of
judge-fits m k s [] e h = tt
judge-fits m k s (x ∷ xs) e h =
    let u = fine-inv (step s x.is) (over m (open_in s) x.is) k (λ t. judge m (suc k) t xs) e in
    (fit-token m (open_in s) x.is u.0 h.0, judge-fits m (suc k) u.1 xs u.2 h.1)

pub all_fit : (m : Mode) (s : List ℕ) (k : ℕ) (q : State) → judge m k q (lexemes m s) ≡ fine → All FitTok (toks m s)
unfolding toks lexemes
all_fit m s k q e = judge-fits m k q (lexemes_from (length s) m s 0) e (all-256 (length s) m s 0)

-- ── what is gathered from tokens that fit ──
fit-by : (b : Bool) (h : Symbol) (l : List Symbol) → FitSymbol h → All FitSymbol l → All FitSymbol (gather_by b h l)
fit-by true h l e f = (e, f)
fit-by false h l e f = f

pub fit-gathered : (b : Bool) (l : List Tok) → All FitTok l → All FitSymbol (gathered b l)
unfolding gathered
fit-gathered b [] h = tt
fit-gathered b (symbol x ∷ l) h = fit-by (b || is_arrow l) x (gathered b l) h.0 (fit-gathered b l h.1)
fit-gathered b (leaf x ∷ l) h = fit-gathered b l h.1
fit-gathered b (pre x ∷ l) h = fit-gathered b l h.1
fit-gathered b (suf x ∷ l) h = fit-gathered b l h.1
fit-gathered b (arrow ∷ l) h = fit-gathered b l h.1
fit-gathered b (slash ∷ l) h = fit-gathered b l h.1
fit-gathered b (opens ∷ l) h = fit-gathered b l h.1
fit-gathered b (closes ∷ l) h = fit-gathered b l h.1
fit-gathered b (bad ∷ l) h = fit-gathered b l h.1

pub fit-leaves : (l : List Tok) → All FitTok l → All FitLeaf (leaves l)
unfolding leaves
fit-leaves [] h = tt
fit-leaves (symbol x ∷ l) h = fit-leaves l h.1
fit-leaves (leaf x ∷ l) h = (h.0, fit-leaves l h.1)
fit-leaves (pre x ∷ l) h = fit-leaves l h.1
fit-leaves (suf x ∷ l) h = fit-leaves l h.1
fit-leaves (arrow ∷ l) h = fit-leaves l h.1
fit-leaves (slash ∷ l) h = fit-leaves l h.1
fit-leaves (opens ∷ l) h = fit-leaves l h.1
fit-leaves (closes ∷ l) h = fit-leaves l h.1
fit-leaves (bad ∷ l) h = fit-leaves l h.1

module _ {A : Type 0} (same : A → A → Bool) (Fit : A → Type 0) where
  all_snoc : (l : List A) (x : A) → All Fit l → Fit x → All Fit (l ++ (x ∷ []))
  all_snoc [] x h f = (f, tt)
  all_snoc (y ∷ l) x h f = (h.0, all_snoc l x h.1 f)

  all-also : (x : A) (l : List A) → All Fit l → Fit x → All Fit (also same x l)
  all-also x l h f = by (is_in same x l) refl
    where
      by : (b : Bool) → is_in same x l ≡ b → All Fit (also same x l)
      by true e = subst (All Fit) (sym (also-in same x l e)) h
      by false e = subst (All Fit) (sym (also-new same x l e)) (all_snoc l x h f)

  pub all-adds : (l xs : List A) → All Fit l → All Fit xs → All Fit (adds same l xs)
  unfolding adds
  all-adds l [] h f = h
  all-adds l (x ∷ xs) h f = all-adds (also same x l) xs (all-also x l h f.0) f.1
