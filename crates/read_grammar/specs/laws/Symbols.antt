-- The symbols that are gathered from the tokens of a grammar are those of its rules: the left sides, and the lakes without a rule. Assumes nothing.
use Rattle.std.specs.Prelude.{ℕ, ◌≡◌, refl, Bool, true, false, ◌||◌, List, [], ◌∷◌, ◌++◌}
use Rattle.std.proofs.Common.{sym, ap, ◌∙◌, true≢false, append_assoc, append-nil}
use Rattle.std.proofs.lemmas.Bool.{false≢true}
use Rattle.std.proofs.Math.Option.{Option, none, some}
use Rattle.base_facts.specs.laws.Options.{some-none}
use Rattle.read_tokens.specs.declared.Mode.{Mode}
use Rattle.read_tokens.specs.Token.{Symbol, name, lake, Leaf, Tok, symbol, leaf, pre, suf, arrow, slash, opens, closes, bad, Lexeme}
use Rattle.read_tokens.specs.Tokens.{toks_of}
use Rattle.grammar.specs.Exp.{Exp, Rule, symbols_in, leaves_in}
use Rattle.grammar.specs.Same.{same_symbol, is_in, new_in}
use Rattle.grammar.specs.Syntax.{Choice, Sequence, Prefixed, Suffixed, Primary, Rules, one, or, first, next, bare, with, only, then, psym, term, group, rule, more, choice_toks, seq_toks, pref_toks, suf_toks, prim_toks, tokens}
use Rattle.grammar.specs.Trees.{prefixed, suffixed, tree_c, tree_s, tree_p, tree_f, tree_q, ruled, trees}
use Rattle.grammar.specs.Numbers.{left_sides, uses_of, only_lakes, leaves_of}
use Rattle.read_syntax.specs.Reader.{is_arrow}
use Rattle.read_syntax.specs.Reading.{reserved, second, second_by, lefts_in, left_by, before}
use Rattle.read_grammar.specs.steps.Lay.{gather_by, gathered}
use Rattle.read_tokens.specs.Token.{Prefix, amp, bang, Suffix, query, asterisk, cross}

-- the symbols that no arrow follows, and the terminals
abbrev use_by : Bool → Symbol → List Symbol → List Symbol
use_by true h l = l
use_by false h l = h ∷ l

unfoldable pub uses : List Tok → List Symbol
uses [] = []
uses (symbol h ∷ l) = use_by (is_arrow l) h (uses l)
uses (leaf x ∷ l) = uses l
uses (pre x ∷ l) = uses l
uses (suf x ∷ l) = uses l
uses (arrow ∷ l) = uses l
uses (slash ∷ l) = uses l
uses (opens ∷ l) = uses l
uses (closes ∷ l) = uses l
uses (bad ∷ l) = uses l

unfoldable pub leaves : List Tok → List Leaf
leaves [] = []
leaves (symbol h ∷ l) = leaves l
leaves (leaf x ∷ l) = x ∷ leaves l
leaves (pre x ∷ l) = leaves l
leaves (suf x ∷ l) = leaves l
leaves (arrow ∷ l) = leaves l
leaves (slash ∷ l) = leaves l
leaves (opens ∷ l) = leaves l
leaves (closes ∷ l) = leaves l
leaves (bad ∷ l) = leaves l

-- ── an expression's tokens ──
-- what tokens w in front of l add: no left side, these uses, these terminals
pub record Yields (w : List Tok) (e : Exp Symbol) (l : List Tok) : Type 0 where
  pub lefts : gathered false (w ++ l) ≡ gathered false l
  pub used : uses (w ++ l) ≡ symbols_in e ++ uses l
  pub terms : leaves (w ++ l) ≡ leaves_in e ++ leaves l

prim-first : (q : Primary) (l : List Tok) → is_arrow (prim_toks q ++ l) ≡ false
unfolding choice_toks
prim-first (psym h) l = refl
prim-first (term x) l = refl
prim-first (group c) l = refl

suf-first : (e : Suffixed) (l : List Tok) → is_arrow (suf_toks e ++ l) ≡ false
unfolding choice_toks
suf-first (only q) l = prim-first q l
suf-first (then q x) l = ap is_arrow (append_assoc (prim_toks q) (suf x ∷ []) l) ∙ prim-first q (suf x ∷ l)

pref-first : (p : Prefixed) (l : List Tok) → is_arrow (pref_toks p ++ l) ≡ false
unfolding choice_toks
pref-first (bare e) l = suf-first e l
pref-first (with x e) l = refl

-- a symbol that no arrow follows
symbol-says : (h : Symbol) (l : List Tok) (b : Bool) → is_arrow l ≡ b → b ≡ false → (gathered false (symbol h ∷ l) ≡ gathered false l) × (uses (symbol h ∷ l) ≡ h ∷ uses l)
unfolding gathered uses
symbol-says h l b e f = (ap (λ (x : Bool). gather_by x h (gathered false l)) (e ∙ f), ap (λ (x : Bool). use_by x h (uses l)) (e ∙ f))

suffixed-says : (x : Suffix) (e : Exp Symbol) → (symbols_in (suffixed x e) ≡ symbols_in e) × (leaves_in (suffixed x e) ≡ leaves_in e)
unfolding symbols_in leaves_in
suffixed-says query e = (refl, refl)
suffixed-says asterisk e = (refl, refl)
suffixed-says cross e = (refl, refl)

prefixed-says : (x : Prefix) (e : Exp Symbol) → (symbols_in (prefixed x e) ≡ symbols_in e) × (leaves_in (prefixed x e) ≡ leaves_in e)
unfolding symbols_in leaves_in
prefixed-says amp e = (refl, refl)
prefixed-says bang e = (refl, refl)

mutual
  unfolding choice_toks tree_c gathered uses leaves symbols_in leaves_in

  pub choice-says : (c : Choice) (l : List Tok) → is_arrow l ≡ false → Yields (choice_toks c) (tree_c c) l
  choice-says (one s) l h = sequence-says s l h
  choice-says (or c s) l h =
      let a = choice-says c (slash ∷ (seq_toks s ++ l)) refl in
      let b = sequence-says s l h in
      let e = append_assoc (choice_toks c) (slash ∷ seq_toks s) l in
      record {
        lefts = ap (gathered false) e ∙ a.lefts ∙ b.lefts;
        used = ap uses e ∙ a.used ∙ ap (λ (x : List Symbol). symbols_in (tree_c c) ++ x) b.used ∙ sym (append_assoc (symbols_in (tree_c c)) (symbols_in (tree_s s)) (uses l));
        terms = ap leaves e ∙ a.terms ∙ ap (λ (x : List Leaf). leaves_in (tree_c c) ++ x) b.terms ∙ sym (append_assoc (leaves_in (tree_c c)) (leaves_in (tree_s s)) (leaves l));
      }

  sequence-says : (s : Sequence) (l : List Tok) → is_arrow l ≡ false → Yields (seq_toks s) (tree_s s) l
  sequence-says (first p) l h = prefix-says p l h
  sequence-says (next s p) l h =
      let a = sequence-says s (pref_toks p ++ l) (pref-first p l) in
      let b = prefix-says p l h in
      let e = append_assoc (seq_toks s) (pref_toks p) l in
      record {
        lefts = ap (gathered false) e ∙ a.lefts ∙ b.lefts;
        used = ap uses e ∙ a.used ∙ ap (λ (x : List Symbol). symbols_in (tree_s s) ++ x) b.used ∙ sym (append_assoc (symbols_in (tree_s s)) (symbols_in (tree_p p)) (uses l));
        terms = ap leaves e ∙ a.terms ∙ ap (λ (x : List Leaf). leaves_in (tree_s s) ++ x) b.terms ∙ sym (append_assoc (leaves_in (tree_s s)) (leaves_in (tree_p p)) (leaves l));
      }

  prefix-says : (p : Prefixed) (l : List Tok) → is_arrow l ≡ false → Yields (pref_toks p) (tree_p p) l
  prefix-says (bare e) l h = suffix-says e l h
  prefix-says (with x e) l h =
      let a = suffix-says e l h in
      record {
        lefts = a.lefts;
        used = a.used ∙ ap (λ (y : List Symbol). y ++ uses l) (sym (prefixed-says x (tree_f e)).0);
        terms = a.terms ∙ ap (λ (y : List Leaf). y ++ leaves l) (sym (prefixed-says x (tree_f e)).1);
      }

  suffix-says : (e : Suffixed) (l : List Tok) → is_arrow l ≡ false → Yields (suf_toks e) (tree_f e) l
  suffix-says (only q) l h = primary-says q l h
  suffix-says (then q x) l h =
      let a = primary-says q (suf x ∷ l) refl in
      let e = append_assoc (prim_toks q) (suf x ∷ []) l in
      record {
        lefts = ap (gathered false) e ∙ a.lefts;
        used = ap uses e ∙ a.used ∙ ap (λ (y : List Symbol). y ++ uses l) (sym (suffixed-says x (tree_q q)).0);
        terms = ap leaves e ∙ a.terms ∙ ap (λ (y : List Leaf). y ++ leaves l) (sym (suffixed-says x (tree_q q)).1);
      }

  primary-says : (q : Primary) (l : List Tok) → is_arrow l ≡ false → Yields (prim_toks q) (tree_q q) l
  primary-says (psym y) l h = record { lefts = (symbol-says y l false h refl).0; used = (symbol-says y l false h refl).1; terms = refl }
  primary-says (term x) l h = record { lefts = refl; used = refl; terms = refl }
  primary-says (group c) l h =
      let a = choice-says c (closes ∷ l) refl in
      let e = append_assoc (choice_toks c) (closes ∷ []) l in
      record { lefts = ap (gathered false) e ∙ a.lefts; used = ap uses e ∙ a.used; terms = ap leaves e ∙ a.terms }

-- ── the rules' tokens ──
lefts-append : (a b : List Rule) → left_sides (a ++ b) ≡ left_sides a ++ left_sides b
unfolding left_sides
lefts-append [] b = refl
lefts-append (r ∷ a) b = ap (λ (l : List Symbol). r.left ∷ l) (lefts-append a b)

uses-append : (a b : List Rule) → uses_of (a ++ b) ≡ uses_of a ++ uses_of b
unfolding uses_of
uses-append [] b = refl
uses-append (r ∷ a) b = ap (λ (l : List Symbol). symbols_in r.right ++ l) (uses-append a b) ∙ sym (append_assoc (symbols_in r.right) (uses_of a) (uses_of b))

leaves-append : (a b : List Rule) → leaves_of (a ++ b) ≡ leaves_of a ++ leaves_of b
unfolding leaves_of
leaves-append [] b = refl
leaves-append (r ∷ a) b = ap (λ (l : List Leaf). leaves_in r.right ++ l) (leaves-append a b) ∙ sym (append_assoc (leaves_in r.right) (leaves_of a) (leaves_of b))

pub record Tells (g : Rules) (l : List Tok) : Type 0 where
  pub lefts : gathered false (tokens g ++ l) ≡ left_sides (trees g) ++ gathered false l
  pub used : uses (tokens g ++ l) ≡ uses_of (trees g) ++ uses l
  pub terms : leaves (tokens g ++ l) ≡ leaves_of (trees g) ++ leaves l

head-tells : (h : Symbol) (c : Choice) (l : List Tok) → is_arrow l ≡ false
    → (gathered false (symbol h ∷ arrow ∷ (choice_toks c ++ l)) ≡ h ∷ gathered false l) × (uses (symbol h ∷ arrow ∷ (choice_toks c ++ l)) ≡ symbols_in (tree_c c) ++ uses l) × (leaves (symbol h ∷ arrow ∷ (choice_toks c ++ l)) ≡ leaves_in (tree_c c) ++ leaves l)
unfolding gathered uses leaves
head-tells h c l e = let a = choice-says c l e in (ap (λ (x : List Symbol). h ∷ x) a.lefts, a.used, a.terms)

pub rules-tell : (g : Rules) (l : List Tok) → is_arrow l ≡ false → Tells g l
unfolding tokens trees left_sides uses_of leaves_of
rules-tell (rule h c) l e =
    let a = head-tells h c l e in
    record {
      lefts = a.0;
      used = a.1 ∙ ap (λ (x : List Symbol). x ++ uses l) (sym (append-nil (symbols_in (tree_c c))));
      terms = a.2 ∙ ap (λ (x : List Leaf). x ++ leaves l) (sym (append-nil (leaves_in (tree_c c))));
    }
rules-tell (more g h c) l e =
    let b = rules-tell g (symbol h ∷ arrow ∷ (choice_toks c ++ l)) refl in
    let a = head-tells h c l e in
    let r = ruled h (tree_c c) ∷ [] in
    let j = append_assoc (tokens g) (symbol h ∷ arrow ∷ choice_toks c) l in
    record {
      lefts =
          ap (gathered false) j ∙ b.lefts ∙ ap (λ (x : List Symbol). left_sides (trees g) ++ x) a.0
          ∙ sym (ap (λ (x : List Symbol). x ++ gathered false l) (lefts-append (trees g) (ruled h (tree_c c) ∷ [])) ∙ append_assoc (left_sides (trees g)) (h ∷ []) (gathered false l));
      used =
          ap uses j ∙ b.used ∙ ap (λ (x : List Symbol). uses_of (trees g) ++ x) a.1
          ∙ sym (ap (λ (x : List Symbol). x ++ uses l) (uses-append (trees g) (ruled h (tree_c c) ∷ []) ∙ ap (λ (x : List Symbol). uses_of (trees g) ++ x) (append-nil (symbols_in (tree_c c))))
          ∙ append_assoc (uses_of (trees g)) (symbols_in (tree_c c)) (uses l));
      terms =
          ap leaves j ∙ b.terms ∙ ap (λ (x : List Leaf). leaves_of (trees g) ++ x) a.2
          ∙ sym (ap (λ (x : List Leaf). x ++ leaves l) (leaves-append (trees g) (ruled h (tree_c c) ∷ []) ∙ ap (λ (x : List Leaf). leaves_of (trees g) ++ x) (append-nil (leaves_in (tree_c c))))
          ∙ append_assoc (leaves_of (trees g)) (leaves_in (tree_c c)) (leaves l));
    }

pub tells-lefts : (g : Rules) → gathered false (tokens g) ≡ left_sides (trees g)
unfolding gathered
tells-lefts g = ap (gathered false) (sym (append-nil (tokens g))) ∙ (rules-tell g [] refl).lefts ∙ append-nil (left_sides (trees g))

pub tells-uses : (g : Rules) → uses (tokens g) ≡ uses_of (trees g)
unfolding uses
tells-uses g = ap uses (sym (append-nil (tokens g))) ∙ (rules-tell g [] refl).used ∙ append-nil (uses_of (trees g))

pub tells-leaves : (g : Rules) → leaves (tokens g) ≡ leaves_of (trees g)
unfolding leaves
tells-leaves g = ap leaves (sym (append-nil (tokens g))) ∙ (rules-tell g [] refl).terms ∙ append-nil (leaves_of (trees g))

-- ── what refusals 4 and 5 tell ──

pub lefts-gathered : (xs : List Lexeme) → lefts_in xs ≡ gathered false (toks_of xs)
unfolding lefts_in gathered toks_of
lefts-gathered [] = refl
lefts-gathered (x ∷ xs) = by x.is (lefts-gathered xs)
  where
    sym-by : (h : Symbol) (b : Bool) (l m : List Symbol) → l ≡ m → left_by (symbol h) b l ≡ gather_by b h m
    sym-by h true l m e = ap (λ (y : List Symbol). h ∷ y) e
    sym-by h false l m e = e

    by : (t : Tok) → lefts_in xs ≡ gathered false (toks_of xs) → left_by t (before xs) (lefts_in xs) ≡ gathered false (t ∷ toks_of xs)
    by (symbol h) e = sym-by h (before xs) (lefts_in xs) (gathered false (toks_of xs)) e
    by (leaf y) e = e
    by (pre y) e = e
    by (suf y) e = e
    by arrow e = e
    by slash e = e
    by opens e = e
    by closes e = e
    by bad e = e

-- left sides that are never there twice are their own first appearances
abbrev new_by : Bool → Symbol → List Symbol → List Symbol → List Symbol
new_by true h seen l = new_in same_symbol seen l
new_by false h seen l = h ∷ new_in same_symbol (h ∷ seen) l

new_is : (h : Symbol) (seen l : List Symbol) (b : Bool) → is_in same_symbol h seen ≡ b → new_in same_symbol seen (h ∷ l) ≡ new_by b h seen l
unfolding new_in
new_is h seen l b e = by (is_in same_symbol h seen) b e
  where
    by : (x y : Bool) → x ≡ y → elim x [ true ↦ new_in same_symbol seen l | false ↦ h ∷ new_in same_symbol (h ∷ seen) l ] ≡ new_by y h seen l
    by true true u = refl
    by true false u = absurd (true≢false u)
    by false true u = absurd (false≢true u)
    by false false u = refl

pub once-new : (m : Mode) (seen : List Symbol) (xs : List Lexeme) → second m seen xs ≡ none → new_in same_symbol seen (lefts_in xs) ≡ lefts_in xs
unfolding second lefts_in new_in
once-new m seen [] e = refl
once-new m seen (x ∷ xs) e = by x.is e (once-new m seen xs) (λ h. once-new m (h ∷ seen) xs)
  where
    as-left : (h : Symbol) (r n : Bool) → is_in same_symbol h seen ≡ n
        → ◌≡◌ {A = Option ℕ} (elim (r || n) [ true ↦ some x.start | false ↦ second m (h ∷ seen) xs ]) none → (second m (h ∷ seen) xs ≡ none → new_in same_symbol (h ∷ seen) (lefts_in xs) ≡ lefts_in xs)
        → new_in same_symbol seen (h ∷ lefts_in xs) ≡ h ∷ lefts_in xs
    as-left h true n u e g = absurd (some-none x.start e)
    as-left h false true u e g = absurd (some-none x.start e)
    as-left h false false u e g = new_is h seen (lefts_in xs) false u ∙ ap (λ (l : List Symbol). h ∷ l) (g e)

    as-use : (h : Symbol) (r : Bool) → ◌≡◌ {A = Option ℕ} (elim (r || false) [ true ↦ some x.start | false ↦ second m seen xs ]) none → second m seen xs ≡ none
    as-use h true e = absurd (some-none x.start e)
    as-use h false e = e

    symbol-by : (h : Symbol) (b : Bool) → second_by m seen (symbol h) x.start b (λ y. second m y xs) ≡ none
        → (second m seen xs ≡ none → new_in same_symbol seen (lefts_in xs) ≡ lefts_in xs) → (second m (h ∷ seen) xs ≡ none → new_in same_symbol (h ∷ seen) (lefts_in xs) ≡ lefts_in xs)
        → new_in same_symbol seen (left_by (symbol h) b (lefts_in xs)) ≡ left_by (symbol h) b (lefts_in xs)
    symbol-by h true e f g = as-left h (reserved m h) (is_in same_symbol h seen) refl e g
    symbol-by h false e f g = f (as-use h (reserved m h) e)

    by : (t : Tok) → second_by m seen t x.start (before xs) (λ y. second m y xs) ≡ none
        → (second m seen xs ≡ none → new_in same_symbol seen (lefts_in xs) ≡ lefts_in xs) → ((h : Symbol) → second m (h ∷ seen) xs ≡ none → new_in same_symbol (h ∷ seen) (lefts_in xs) ≡ lefts_in xs)
        → new_in same_symbol seen (left_by t (before xs) (lefts_in xs)) ≡ left_by t (before xs) (lefts_in xs)
    by (symbol h) e f g = symbol-by h (before xs) e f (g h)
    by (leaf y) e f g = f e
    by (pre y) e f g = f e
    by (suf y) e f g = f e
    by arrow e f g = f e
    by slash e f g = f e
    by opens e f g = f e
    by closes e f g = f e
    by bad e f g = f e

-- every symbol but a lake's use is among `seen`
abbrev pub CoverBy : Symbol → Bool → List Symbol → Type 0
CoverBy h true seen = is_in same_symbol h seen ≡ true
CoverBy (name w) false seen = is_in same_symbol (name w) seen ≡ true
CoverBy (lake w) false seen = Unit {0}

abbrev pub Covered : List Symbol → List Tok → Type 0
Covered seen [] = Unit {0}
Covered seen (symbol h ∷ l) = CoverBy h (is_arrow l) seen × Covered seen l
Covered seen (leaf x ∷ l) = Covered seen l
Covered seen (pre x ∷ l) = Covered seen l
Covered seen (suf x ∷ l) = Covered seen l
Covered seen (arrow ∷ l) = Covered seen l
Covered seen (slash ∷ l) = Covered seen l
Covered seen (opens ∷ l) = Covered seen l
Covered seen (closes ∷ l) = Covered seen l
Covered seen (bad ∷ l) = Covered seen l

in-more : (h y : Symbol) (seen : List Symbol) → is_in same_symbol h seen ≡ true → is_in same_symbol h (y ∷ seen) ≡ true
unfolding is_in
in-more h y seen e = by (same_symbol h y)
  where
    by : (b : Bool) → (b || is_in same_symbol h seen) ≡ true
    by true = refl
    by false = e

cover-more : (h : Symbol) (b : Bool) (y : Symbol) (seen : List Symbol) → CoverBy h b seen → CoverBy h b (y ∷ seen)
cover-more h true y seen e = in-more h y seen e
cover-more (name w) false y seen e = in-more (name w) y seen e
cover-more (lake w) false y seen e = tt

covered_more : (y : Symbol) (seen : List Symbol) (l : List Tok) → Covered seen l → Covered (y ∷ seen) l
covered_more y seen [] e = tt
covered_more y seen (symbol h ∷ l) e = (cover-more h (is_arrow l) y seen e.0, covered_more y seen l e.1)
covered_more y seen (leaf x ∷ l) e = covered_more y seen l e
covered_more y seen (pre x ∷ l) e = covered_more y seen l e
covered_more y seen (suf x ∷ l) e = covered_more y seen l e
covered_more y seen (arrow ∷ l) e = covered_more y seen l e
covered_more y seen (slash ∷ l) e = covered_more y seen l e
covered_more y seen (opens ∷ l) e = covered_more y seen l e
covered_more y seen (closes ∷ l) e = covered_more y seen l e
covered_more y seen (bad ∷ l) e = covered_more y seen l e

-- then only lakes that are used can be new
lake-new : (w : List ℕ) (l m : List Symbol) (seen : List Symbol) → new_in same_symbol seen l ≡ new_in same_symbol seen m → new_in same_symbol (lake w ∷ seen) l ≡ new_in same_symbol (lake w ∷ seen) m
    → new_in same_symbol seen (lake w ∷ l) ≡ new_in same_symbol seen (lake w ∷ m)
lake-new w l m seen e f = by (is_in same_symbol (lake w) seen) refl
  where
    by : (b : Bool) → is_in same_symbol (lake w) seen ≡ b → new_in same_symbol seen (lake w ∷ l) ≡ new_in same_symbol seen (lake w ∷ m)
    by true u = new_is (lake w) seen l true u ∙ e ∙ sym (new_is (lake w) seen m true u)
    by false u = new_is (lake w) seen l false u ∙ ap (λ (y : List Symbol). lake w ∷ y) f ∙ sym (new_is (lake w) seen m false u)

pub only-lakes : (seen : List Symbol) (l : List Tok) → Covered seen l → new_in same_symbol seen (gathered true l) ≡ new_in same_symbol seen (only_lakes (uses l))
unfolding gathered uses only_lakes
only-lakes seen [] e = refl
only-lakes seen (symbol h ∷ l) e = by h (is_arrow l) e.0 (only-lakes seen l e.1) (λ y. only-lakes (y ∷ seen) l (covered_more y seen l e.1))
  where
    by : (h : Symbol) (b : Bool) → CoverBy h b seen → new_in same_symbol seen (gathered true l) ≡ new_in same_symbol seen (only_lakes (uses l))
        → ((y : Symbol) → new_in same_symbol (y ∷ seen) (gathered true l) ≡ new_in same_symbol (y ∷ seen) (only_lakes (uses l)))
        → new_in same_symbol seen (h ∷ gathered true l) ≡ new_in same_symbol seen (only_lakes (use_by b h (uses l)))
    by h true e f g = new_is h seen (gathered true l) true e ∙ f
    by (name w) false e f g = new_is (name w) seen (gathered true l) true e ∙ f
    by (lake w) false e f g = lake-new w (gathered true l) (only_lakes (uses l)) seen f (g (lake w))
only-lakes seen (leaf x ∷ l) e = only-lakes seen l e
only-lakes seen (pre x ∷ l) e = only-lakes seen l e
only-lakes seen (suf x ∷ l) e = only-lakes seen l e
only-lakes seen (arrow ∷ l) e = only-lakes seen l e
only-lakes seen (slash ∷ l) e = only-lakes seen l e
only-lakes seen (opens ∷ l) e = only-lakes seen l e
only-lakes seen (closes ∷ l) e = only-lakes seen l e
only-lakes seen (bad ∷ l) e = only-lakes seen l e
