-- What the marks of a range say, and one token for refusals 4 and 5. Assumes nothing.
use Prim.Native.Nat.{ℕ}
use Rattle.std.specs.Prelude.{◌≡◌, Bool, cond, not, ◌&&◌, ◌||◌, List, [], ◌∷◌, replicate, eqb, ltb}
use Rattle.std.proofs.Math.Path.{refl, ap}
use Rattle.std.proofs.Common.{sym, ap₂, ◌∙◌, subst, arith, eqb-true, eq-eqb, ltb-true, ltb-false}
use Rattle.std.proofs.Math.Bool.{true, false, and-false}
use Rattle.std.proofs.lemmas.Bool.{false≢true, true≢false}
use Rattle.std.proofs.Math.Option.{some}
use Rattle.std.proofs.Math.ListN.{get_or, get_or-eq_default}
use Rattle.std.proofs.lemmas.List.{length-replicate, get_or-replicate}
use Rattle.read_tokens.specs.declared.Mode.{Mode}
use Rattle.read_tokens.specs.declared.Kind.{Kind}
use Rattle.read_tokens.specs.declared.Kind.TheVariants.{End, Name}
use Rattle.read_tokens.specs.declared.Token.{Token}
use Rattle.read_tokens.specs.Token.{Symbol, Tok, name, lake, symbol, leaf, pre, suf, arrow, slash, opens, closes, bad}
use Rattle.read_tokens.specs.Tokens.{token_at, lexemes}
use Rattle.read_tokens.specs.steps.Code.{kind_of, kind_number, symbolic, coded}
use Rattle.read_tokens.specs.laws.Forward.{lexemes_at}
use Rattle.grammar.specs.Same.{same_bytes, same_symbol, is_in}
use Rattle.read_syntax.specs.Reading.{before, left_by, lefts_in, lacks}
use Rattle.read_walks.specs.steps.Names.{bytes_at, symbol_by, begun, reserved_by}
use Rattle.read_walks.specs.laws.Names.{one_of}
use Rattle.read_walks.specs.laws.Offences.{said, not-symbol, reserved-here, used-here, left_here, no_name, no-use, name-use}
use Rattle.read_order.specs.steps.Order.{Bound, symbol_in, Packs, within, find_in}
use Rattle.read_names.specs.steps.Lefts.{found, Finds, Entered, left_at, MetAll, Used, UsedAll, Whole}

-- ── the same symbol ──
bytes_same : (v w : List ℕ) → same_bytes v w ≡ true → v ≡ w
unfolding same_bytes
bytes_same [] [] e = refl
bytes_same [] (y ∷ w) e = absurd (false≢true e)
bytes_same (x ∷ v) [] e = absurd (false≢true e)
bytes_same (x ∷ v) (y ∷ w) e = go (eqb x y) refl e (λ f. bytes_same v w f)
  where
    go : (b : Bool) → eqb x y ≡ b → (b && same_bytes v w) ≡ true → (same_bytes v w ≡ true → v ≡ w) → (x ∷ v) ≡ (y ∷ w)
    go true q f again = ap₂ (λ (a : ℕ) (l : List ℕ). a ∷ l) (eqb-true x y q) (again f)
    go false q f again = absurd (false≢true f)

same-is : (x y : Symbol) → same_symbol x y ≡ true → x ≡ y
unfolding same_symbol
same-is (name v) (name w) e = ap name (bytes_same v w e)
same-is (name v) (lake w) e = absurd (false≢true e)
same-is (lake v) (name w) e = absurd (false≢true e)
same-is (lake v) (lake w) e = ap lake (bytes_same v w e)

-- ── marks ──
pub knows-none : (s a : List ℕ) (low high : Bound) (k : ℕ) → Finds s a low high [] (replicate k false)
unfolding is_in
knows-none s a low high k x h = sym (ap (λ (b : Bool). found s a x && b) unmarked ∙ and-false (found s a x))
  where
    i : ℕ
    i = find_in s a x

    unmarked : get_or (replicate k false) i false ≡ false
    unmarked = go (ltb i k) refl
      where
        go : (b : Bool) → ltb i k ≡ b → get_or (replicate k false) i false ≡ false
        go true e = get_or-replicate k i false false (ltb-true i k e)
        go false e = get_or-eq_default (replicate k false) false (omega (arith, length-replicate k false, ltb-false i k e))

module _ (s a : List ℕ) (low high : Bound) (seen : List Symbol) (marks : List Bool) (k : Finds s a low high seen marks) where
  pub knows-out : (y : Symbol) → within s low high y ≡ false → Finds s a low high (y ∷ seen) marks
  unfolding is_in
  knows-out y f x h = go (same_symbol x y) refl
    where
      go : (b : Bool) → same_symbol x y ≡ b → (same_symbol x y || is_in same_symbol x seen) ≡ (found s a x && get_or marks (find_in s a x) false)
      go true e = absurd (false≢true (sym f ∙ ap (within s low high) (sym (same-is x y e)) ∙ h))
      go false e = ap (λ (b : Bool). b || is_in same_symbol x seen) e ∙ k x h

  module _ (y : Symbol) (h : within s low high y ≡ true) (r : Bool) (marks' : List Bool) (p : Entered s a y r marks marks') where
    pub knows-bad : r ≡ true → is_in same_symbol y seen ≡ true
    knows-bad z = k y h ∙ ap₂ (λ (b d : Bool). b && d) p.there (p.bad z)

    pub knows-fine : r ≡ false → is_in same_symbol y seen ≡ false
    knows-fine z = k y h ∙ ap₂ (λ (b d : Bool). b && d) p.there (p.fine z)

    pub knows-in : r ≡ false → Finds s a low high (y ∷ seen) marks'
    unfolding is_in
    knows-in z x w = go (same_symbol x y) refl
      where
        i : ℕ
        i = find_in s a x

        -- another name that the search comes to at the same place is not found there
        lost : find_in s a x ≡ find_in s a y → same_symbol x y ≡ false → found s a x ≡ false
        lost e f =
            ap (λ (j : ℕ). same_symbol x (symbol_in s (get_or a j 0))) e
            ∙ ap (same_symbol x) (sym (same-is y (symbol_in s (get_or a (find_in s a y) 0)) p.there))
            ∙ f

        other : (b : Bool) → eqb (find_in s a x) (find_in s a y) ≡ b → same_symbol x y ≡ false → is_in same_symbol x seen ≡ (found s a x && get_or marks' (find_in s a x) false)
        other true e f =
            k x w
            ∙ ap (λ (b : Bool). b && get_or marks (find_in s a x) false) (lost (eqb-true (find_in s a x) (find_in s a y) e) f)
            ∙ sym (ap (λ (b : Bool). b && get_or marks' (find_in s a x) false) (lost (eqb-true (find_in s a x) (find_in s a y) e) f))
        other false e f =
            k x w ∙ ap (λ (b : Bool). found s a x && b) (sym (p.now z (find_in s a x) ∙ ap (λ (b : Bool). cond b true (get_or marks (find_in s a x) false)) e))

        itself : x ≡ y → true ≡ (found s a x && get_or marks' (find_in s a x) false)
        itself e =
            sym (ap (λ (q : Symbol). found s a q && get_or marks' (find_in s a q) false) e
            ∙ ap₂ (λ (b d : Bool). b && d) p.there
            (p.now z (find_in s a y) ∙ ap (λ (b : Bool). cond b true (get_or marks (find_in s a y) false)) (eq-eqb (find_in s a y) (find_in s a y) refl)))

        go : (b : Bool) → same_symbol x y ≡ b → (same_symbol x y || is_in same_symbol x seen) ≡ (found s a x && get_or marks' (find_in s a x) false)
        go true e = ap (λ (b : Bool). b || is_in same_symbol x seen) e ∙ itself (same-is x y e)
        go false e = ap (λ (b : Bool). b || is_in same_symbol x seen) e ∙ other (eqb (find_in s a x) (find_in s a y)) refl e

-- ── one token for refusal 4 ──
symbol-is : (x y : Symbol) → ◌≡◌ {A = Tok} (symbol x) (symbol y) → x ≡ y
symbol-is x y e = cc

use-left : (l : List Symbol) (u : Tok) → left_by u false l ≡ l
use-left l (symbol x) = refl
use-left l (leaf x) = refl
use-left l (pre x) = refl
use-left l (suf x) = refl
use-left l arrow = refl
use-left l slash = refl
use-left l opens = refl
use-left l closes = refl
use-left l bad = refl

module _ (m : Mode) (s : List ℕ) (at : ℕ) (t : Token) (e : t ≡ coded (token_at m s at)) (f : t.kind ≡ End → ⊥) where
  kind-is : (u : Tok) → (token_at m s at).is ≡ some u → kind_of (some u) ≡ t.kind
  kind-is u q = sym (ap (λ (x : Token). x.kind) e ∙ ap kind_of q)

  no-left : symbolic t.kind ≡ false → (b : Bool) (l : List Symbol) (u : Tok) → (token_at m s at).is ≡ some u → left_by u b l ≡ l
  no-left h b l (symbol (name w)) q = absurd (true≢false (ap symbolic (kind-is (symbol (name w)) q) ∙ h))
  no-left h b l (symbol (lake w)) q = absurd (true≢false (ap symbolic (kind-is (symbol (lake w)) q) ∙ h))
  no-left h b l (leaf x) q = refl
  no-left h b l (pre x) q = refl
  no-left h b l (suf x) q = refl
  no-left h b l arrow q = refl
  no-left h b l slash q = refl
  no-left h b l opens q = refl
  no-left h b l closes q = refl
  no-left h b l bad q = refl

  module _ (a : List ℕ) (low high : Bound) (marks : List Bool) where
    pub met-other : symbolic t.kind ≡ false → MetAll m s at a low high false marks marks
    met-other h u q seen k =
        record {
          fine = λ z x p w. sym (not-symbol m s at t e f seen (left_at m s at) h u q);
          more = λ z. subst (λ (l : List Symbol). Finds s a low high l marks) (sym (no-left h (left_at m s at) seen u q)) k;
          bad = λ z. absurd (false≢true z);
        }

    module _ (h : symbolic t.kind ≡ true) (from : ℕ) (o : from ≡ begun t.kind t.start) (left reserved : Bool)
        (lf : left ≡ before (lexemes_at m s t.next)) (rs : reserved ≡ reserved_by m (bytes_at s from t.size)) where
      abbrev y : Symbol
      y = symbol_by t.kind (bytes_at s from t.size)

      said-y : (u : Tok) → (token_at m s at).is ≡ some u → symbol y ≡ u
      said-y u q = ap (λ (j : ℕ). symbol (symbol_by t.kind (bytes_at s j t.size))) o ∙ said m s at t e f h u q

      left_is : left_at m s at ≡ left
      left_is = sym (lf ∙ ap (λ (x : Token). before (lexemes_at m s x.next)) e)

      reserved-is : reserved_by m (bytes_at s (begun t.kind t.start) t.size) ≡ reserved
      reserved-is = sym (rs ∙ ap (λ (j : ℕ). reserved_by m (bytes_at s j t.size)) o)

      pub met-use : left ≡ false → reserved ≡ false → MetAll m s at a low high false marks marks
      met-use l r u q seen k =
          record {
            fine = λ z x p w. sym (used-here m s at t e f h seen (left_at m s at) (reserved-is ∙ r) (left_is ∙ l) u q);
            more = λ z. subst (λ (g : List Symbol). Finds s a low high g marks) (sym (ap (λ (b : Bool). left_by u b seen) (left_is ∙ l) ∙ use-left seen u)) k;
            bad = λ z. absurd (false≢true z);
          }

      pub met-reserved : (marks' : List Bool) → reserved ≡ true → MetAll m s at a low high true marks marks'
      met-reserved marks' r u q seen k =
          record {
            fine = λ z. absurd (true≢false z);
            more = λ z. absurd (true≢false z);
            bad = λ z. sym (reserved-here m s at t e f h seen (left_at m s at) (reserved-is ∙ r) u q);
          }

      module _ (v : ℕ) (p : Packs s t.kind from t.size v) where
        pub met-out : false ≡ within s low high (symbol_in s v) → MetAll m s at a low high false marks marks
        met-out w u q seen k =
            record {
              fine = λ z x g i. absurd (false≢true (sym out ∙ ap (within s low high) (symbol-is y x (said-y u q ∙ g)) ∙ i));
              more = λ z. subst (λ (x : Tok). Finds s a low high (left_by x (left_at m s at) seen) marks) (said-y u q) (go (left_at m s at));
              bad = λ z. absurd (false≢true z);
            }
          where
            out : within s low high y ≡ false
            out = ap (within s low high) (sym p.says) ∙ sym w

            go : (b : Bool) → Finds s a low high (left_by (symbol y) b seen) marks
            go true = knows-out s a low high seen marks k y out
            go false = k

        pub met-enter : (r : Bool) (marks' : List Bool) → left ≡ true → reserved ≡ false → true ≡ within s low high (symbol_in s v)
            → Entered s a (symbol_in s v) r marks marks' → MetAll m s at a low high r marks marks'
        met-enter r marks' l g w i u q seen k =
            record {
              fine = λ z x g' j. sym (left_here m s at t e f h seen (left_at m s at) (reserved-is ∙ g) (left_is ∙ l) u q) ∙ begun-y ∙ knows-fine s a low high seen marks k y in-y r marks' entered z;
              more = λ z. subst (λ (l' : List Symbol). Finds s a low high l' marks')
                  (ap (λ (x : Tok). left_by x true seen) (said-y u q) ∙ ap (λ (b : Bool). left_by u b seen) (sym (left_is ∙ l))) (knows-in s a low high seen marks k y in-y r marks' entered z);
              bad = λ z. sym (left_here m s at t e f h seen (left_at m s at) (reserved-is ∙ g) (left_is ∙ l) u q) ∙ begun-y ∙ knows-bad s a low high seen marks k y in-y r marks' entered z;
            }
          where
            in-y : within s low high y ≡ true
            in-y = ap (within s low high) (sym p.says) ∙ sym w

            entered : Entered s a y r marks marks'
            entered = subst (λ (x : Symbol). Entered s a x r marks marks') p.says i

            begun-y : is_in same_symbol (symbol_by t.kind (bytes_at s (begun t.kind t.start) t.size)) seen ≡ is_in same_symbol y seen
            begun-y = ap (λ (j : ℕ). is_in same_symbol (symbol_by t.kind (bytes_at s j t.size)) seen) (sym o)

-- ── one token for refusal 5 ──
module _ (m : Mode) (s : List ℕ) (at : ℕ) (t : Token) (e : t ≡ coded (token_at m s at)) (low high : Bound) where
  abbrev lefts : List Symbol
  lefts = lefts_in (lexemes m s)

  used-0 : (u : Tok) → false ≡ lacks lefts u (left_at m s at) → Used m s at low high false u
  used-0 u g = record { fine = λ z h p w. sym g; bad = λ z. absurd (false≢true z) }

  pub used-other : (t.kind ≡ Name → ⊥) → UsedAll m s at low high false
  used-other f u q = used-0 u (no_name m s at t e lefts (left_at m s at) f u q)

  left-use : (b : Bool) → b ≡ before (lexemes_at m s t.next) → left_at m s at ≡ b
  left-use b h = sym (h ∙ ap (λ (x : Token). before (lexemes_at m s x.next)) e)

  pub used-left : (b : Bool) → b ≡ before (lexemes_at m s t.next) → b ≡ true → UsedAll m s at low high false
  used-left b h z u q = used-0 u (no-use m s at t e lefts u ∙ ap (lacks lefts u) (sym (left-use b h ∙ z)))

  module _ (g : t.kind ≡ Name) (v : ℕ) (p : Packs s t.kind t.start t.size v) where
    abbrev used : Symbol
    used = symbol_by t.kind (bytes_at s t.start t.size)

    start_is : begun t.kind t.start ≡ t.start
    start_is = ap (λ (k : Kind). begun k t.start) g

    said-use : (u : Tok) → (token_at m s at).is ≡ some u → symbol used ≡ u
    said-use u q = ap (λ (j : ℕ). symbol (symbol_by t.kind (bytes_at s j t.size))) (sym start_is) ∙ said m s at t e (λ z. omega (arith, ap kind_number (sym g ∙ z))) (ap symbolic g) u q

    pub used-out : false ≡ within s low high (symbol_in s v) → UsedAll m s at low high false
    used-out w u q =
        record {
          fine = λ z x i j. absurd (false≢true (w ∙ ap (within s low high) (p.says ∙ symbol-is used x (said-use u q ∙ i)) ∙ j));
          bad = λ z. absurd (false≢true z);
        }

    module _ (a : List ℕ) (marks : List Bool) (k : Whole m s a low high marks)
        (b : Bool) (h : b ≡ before (lexemes_at m s t.next)) (l : b ≡ false) (w : true ≡ within s low high (symbol_in s v)) (r : Bool)
        (d : r ≡ (found s a (symbol_in s v) && get_or marks (find_in s a (symbol_in s v)) false)) where
      told : (u : Tok) → (token_at m s at).is ≡ some u → not r ≡ lacks lefts u (left_at m s at)
      told u q =
          ap not (d ∙ sym (k (symbol_in s v) (sym w)) ∙ ap (λ (x : Symbol). is_in same_symbol x lefts) p.says)
          ∙ name-use m s at t e lefts g u q
          ∙ ap (lacks lefts u) (sym (left-use b h ∙ l))

      pub used-known : r ≡ true → UsedAll m s at low high false
      used-known z u q = used-0 u (sym (ap not z) ∙ told u q)

      pub used-bad : r ≡ false → UsedAll m s at low high true
      used-bad z u q = record { fine = λ i. absurd (true≢false i); bad = λ i. sym (told u q) ∙ ap not z }

      pub used-asked : UsedAll m s at low high (not r)
      used-asked = go r refl
        where
          go : (b : Bool) → r ≡ b → UsedAll m s at low high (not b)
          go true z = used-known z
          go false z = used-bad z

  -- a symbol whose name is of another range
  pub out-unused : symbolic t.kind ≡ true → (from : ℕ) → from ≡ begun t.kind t.start → (v : ℕ) → Packs s t.kind from t.size v → false ≡ within s low high (symbol_in s v)
      → UsedAll m s at low high false
  out-unused h from o v p w =
      one_of t.kind h (λ (k : Kind). t.kind ≡ k → UsedAll m s at low high false)
      (λ g. used-out g v (subst (λ (j : ℕ). Packs s t.kind j t.size v) (o ∙ ap (λ (k : Kind). begun k t.start) g) p) w)
      (λ g. used-other (λ z. omega (arith, ap kind_number (sym z ∙ g)))) refl
