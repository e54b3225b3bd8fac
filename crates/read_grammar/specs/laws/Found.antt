-- The record that is made from a token's place is the record of what the token holds. Assumes nothing.
use Rattle.std.specs.Prelude.{ℕ, suc, ◌+◌, ◌≤◌, ◌<◌, ◌≡◌, refl, List, map, ltb, length, get_or, set, take, drop}
use Rattle.std.proofs.Common.{sym, ap, ◌∙◌, subst, ⊎_elim, arith, eq-or-lt_of_le, get_or-take, get_or-drop}
use Rattle.std.proofs.Math.Option.{some}
use Rattle.std.proofs.lemmas.List.{set-get_or}
use Rattle.read_tokens.specs.declared.Mode.{Mode}
use Rattle.read_tokens.specs.declared.Kind.{Kind}
use Rattle.read_tokens.specs.declared.Kind.TheVariants.{Any}
use Rattle.read_tokens.specs.Token.{Symbol, name, lake, Leaf, any, literal, class, symbol, leaf}
use Rattle.read_tokens.specs.Tokens.{token_at}
use Rattle.read_tokens.specs.steps.Code.{kind_of, kind_number, size_of, coded, literal_from, Class}
use Rattle.read_tokens.specs.laws.Again.{name-again, lake-again, literal-again, class-again}
use Rattle.grammar.specs.Exp.{sym as symb, ter}
use Rattle.grammar_table.specs.Table.{terminals_at, terminal_words, symbols_at, symbol_words, symbol_key, terminal_key, words_from}
use Rattle.grammar_table.specs.steps.Rows.{cap, seek, kept, Noted}
use Rattle.grammar_table.specs.laws.Caps.{cap-low, cap-high}
use Rattle.read_entries.specs.steps.Entries.{symbol_row, symbol_record, symbol_at, leaf_row, bit_of, leaf_record, FitLeaf, leaf_at, push_by, pushed}
use Rattle.read_grammar.specs.steps.Lay.{lay, Rel}
use Rattle.read_grammar.specs.steps.Promises.{Occurs, Matches}
use Rattle.read_grammar.specs.laws.Entries.{words-is}
use Rattle.read_grammar.specs.laws.Notes.{rel-symbol, rel-used, rel-full, rel-any}

-- ── symbols ──
part-words : (s : List ℕ) (i : ℕ) (w : List ℕ) → take (length w) (drop i s) ≡ w → words_from s i (length w) ≡ w
part-words s i w e =
    words-is s i w
    (λ j h. sym (get_or-drop i s j 0) ∙ sym (get_or-take (length w) (drop i s) j 0 h) ∙ ap (λ (l : List ℕ). get_or l j 0) e)

symbol-row : (m : Mode) (s : List ℕ) (at : ℕ) (h : Symbol) → (token_at m s at).is ≡ some (symbol h)
    → symbol_at s (kind_of (some (symbol h))) (token_at m s at).start (size_of (some (symbol h))) ≡ symbol_record h
unfolding symbol_record
symbol-row m s at (name w) e =
    ap (λ (i : ℕ). symbol_row 0 (words_from s i (length w))) (let f : (token_at m s at).start + 0 ≡ (token_at m s at).start = omega arith in f)
    ∙ ap (symbol_row 0) (part-words s (token_at m s at).start w (name-again m s at w e).0)
symbol-row m s at (lake w) e =
    ap (λ (i : ℕ). symbol_row 1 (words_from s i (length w))) (let f : (token_at m s at).start + 1 ≡ suc (token_at m s at).start = omega arith in f)
    ∙ ap (symbol_row 1) (part-words s (suc (token_at m s at).start) w (lake-again m s at w e).0)

module _ (m : Mode) (s : List ℕ) (at : ℕ) (kind : Kind) (start size : ℕ) (h : Symbol) (e : (token_at m s at).is ≡ some (symbol h))
    (a : (coded (token_at m s at)).kind ≡ kind) (b : (token_at m s at).start ≡ start) (c : (coded (token_at m s at)).size ≡ size) where
  pub symbol-found : symbol_at s kind start size ≡ symbol_record h
  symbol-found =
      by kind (kind_of (some (symbol h))) start (token_at m s at).start size (size_of (some (symbol h))) (sym a ∙ ap kind_of e) (sym b) (sym c ∙ ap size_of e) ∙ symbol-row m s at h e
    where
      by : (k k' : Kind) (i i' n n' : ℕ) → k ≡ k' → i ≡ i' → n ≡ n' → symbol_at s k i n ≡ symbol_at s k' i' n'
      by k k' i i' n n' p q r = rw (p, q, r) refl

pub occurs : {s : List ℕ} {kind : Kind} {start size r : ℕ} {old new : List ℕ} → r ≡ seek old (symbol_at s kind start size) symbol_key symbol_words symbols_at (kept old 0) → new ≡
    pushed 1 r 0 old → Occurs s kind start size old new
occurs {s} {kind} {start} {size} {r} {old} {new} q p = record {
  same = λ m at h e a b c u i.
      subst (λ (x : List ℕ). Rel x (lay (symb h) u)) (sym p)
      (rel-symbol old r h u i (q ∙ ap (λ (w : List ℕ). seek old w symbol_key symbol_words symbols_at (kept old 0)) (symbol-found m s at kind start size h e a b c)));
}

-- where there are too many expressions one more changes nothing
pushed-full : (k l r : ℕ) (t : List ℕ) → get_or t 2 0 ≡ 1025 → pushed k l r t ≡ t
unfolding pushed
pushed-full k l r t e = ap (λ (c : ℕ). push_by (ltb c 1024) (get_or t 2 0) k l r t) e ∙ ap (set t 2) (sym e) ∙ set-get_or t 2 0

pub occurs-full : {s : List ℕ} {kind : Kind} {start size : ℕ} {t : List ℕ} → get_or t 2 0 ≡ 1025 → Occurs s kind start size t t
occurs-full {s} {kind} {start} {size} {t} q = record {
  same = λ m at h e a b c u i.
      subst (λ (x : List ℕ). Rel x (lay (symb h) u)) (pushed-full 1 (seek t (symbol_record h) symbol_key symbol_words symbols_at (kept t 0)) 0 t q)
      (rel-symbol t (seek t (symbol_record h) symbol_key symbol_words symbols_at (kept t 0)) h u i refl);
}

-- ── terminals ──
cap-fit : (n : ℕ) → n ≤ 256 → cap 256 n ≡ n
cap-fit n h = ⊎_elim (λ (e : n ≡ 256). sym (cap-high n 256 (omega arith)) ∙ sym e) (λ (e : n < 256). sym (cap-low n 256 e)) (eq-or-lt_of_le h)

leaf-row : (m : Mode) (s : List ℕ) (at : ℕ) (x : Leaf) → (token_at m s at).is ≡ some (leaf x) → FitLeaf x
    → leaf_at m s (kind_of (some (leaf x))) (token_at m s at).start (size_of (some (leaf x))) ≡ leaf_record x
unfolding leaf_record leaf_at FitLeaf
leaf-row m s at any e f = refl
leaf-row m s at (literal w) e f =
    ap (λ (n : ℕ). leaf_row 1 n (literal_from n s (suc (token_at m s at).start))) (cap-fit (length w) f) ∙ ap (leaf_row 1 (length w)) (literal-again m s at w e)
leaf-row m s at (class l) e f = ap (λ (c : Class). leaf_row 2 256 (map bit_of c.marks)) (class-again m s at l e)

module _ (m : Mode) (s : List ℕ) (at : ℕ) (kind : Kind) (start size : ℕ) (x : Leaf) (e : (token_at m s at).is ≡ some (leaf x))
    (a : (coded (token_at m s at)).kind ≡ kind) (b : (token_at m s at).start ≡ start) (c : (coded (token_at m s at)).size ≡ size) where
  leaf-found : FitLeaf x → leaf_at m s kind start size ≡ leaf_record x
  leaf-found f =
      by kind (kind_of (some (leaf x))) start (token_at m s at).start size (size_of (some (leaf x))) (sym a ∙ ap kind_of e) (sym b) (sym c ∙ ap size_of e) ∙ leaf-row m s at x e f
    where
      by : (k k' : Kind) (i i' n n' : ℕ) → k ≡ k' → i ≡ i' → n ≡ n' → leaf_at m s k i n ≡ leaf_at m s k' i' n'
      by k k' i i' n n' p q r = rw (p, q, r) refl

pub matches : {m : Mode} {s : List ℕ} {kind : Kind} {start size r : ℕ} {old t₁ new : List ℕ} → Noted old t₁ (leaf_at m s kind start size) 1 terminal_key terminal_words terminals_at r
    → new ≡ pushed 0 r 0 t₁ → Matches m s kind start size old new
matches {m} {s} {kind} {start} {size} {r} {old} {t₁} {new} q p = record {
  same = λ at x e a b c u i.
      subst (λ (y : List ℕ). Rel y (lay (ter x) u)) (sym p)
      (rel-used old t₁ (leaf_at m s kind start size) r x u i (leaf-found m s at kind start size x e a b c) q);
}

-- one terminal more where there are too many
pub matches-full : {m : Mode} {s : List ℕ} {kind : Kind} {start size : ℕ} {old new : List ℕ} → get_or old 1 0 ≡ 65 → new ≡ pushed 0 0 0 old → Matches m s kind start size old new
matches-full {m} {s} {kind} {start} {size} {old} {new} q p = record {
  same = λ at x e a b c u i. subst (λ (y : List ℕ). Rel y (lay (ter x) u)) (sym p) (rel-full old x u i q);
}

any-kind : (x : Leaf) → kind_of (some (leaf x)) ≡ Any → any ≡ x
any-kind any e = refl
any-kind (literal w) e = absurd (omega (arith, ap kind_number e))
any-kind (class l) e = absurd (omega (arith, ap kind_number e))

-- `.` where it is the first terminal
pub matches-any : {m : Mode} {s : List ℕ} {kind : Kind} {start size : ℕ} {old new : List ℕ} → kind ≡ Any → 0 < get_or old 1 0 → get_or old terminals_at 0 ≡ 0 → new ≡ pushed 0 0 0 old
    → Matches m s kind start size old new
matches-any {m} {s} {kind} {start} {size} {old} {new} k z w p = record {
  same = λ at x e a b c u i.
      subst (λ (y : List ℕ). Rel y (lay (ter x) u)) (sym p)
      (subst (λ (y : Leaf). Rel (pushed 0 0 0 old) (lay (ter y) u)) (any-kind x (sym (ap kind_of e) ∙ a ∙ k)) (rel-any old z w u i));
}
