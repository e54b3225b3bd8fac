-- Cells that are set to what the words say before their place is filled: where there is no loop they come to the same, for what stood in a cell before it is
-- filled is never asked for. Assumes nothing.
use Prim.Native.Nat.{ℕ, zero, suc, ◌+◌, ◌-◌, ◌*◌, ◌^◌, ◌≤◌, ◌<◌}
use Rattle.std.specs.Prelude.{◌≡◌, Bool, true, false, cond, ◌&&◌, ◌⊎◌, eqb, ltb}
use Rattle.std.proofs.Math.Path.{refl, ap}
use Rattle.std.proofs.Common.{◌∙◌, subst, sym as flip, true≢false, inl, inr, add-one, eq-or-lt_of_le, suc-mul, mul-le-mul_right, eq-eqb, ne_eqb, lt-ltb, le-ltb, ext_get_or}
use mathlib.Core.List.{List, [], ◌∷◌}
use native.Mathlib.Omega.{arith}
use Rattle.std.specs.Int.Bits.{bit_or}
use Rattle.std.proofs.Math.Decide.{ℕ_discrete}
use Rattle.std.proofs.Math.ListN.{get_or, length, set, length-set}
use Rattle.std.proofs.Math.Seq.{get_or-set_same, get_or-set_other}
use Rattle.std.proofs.lemmas.List.{set-get_or, places}
use Rattle.std.proofs.lemmas.Grind.{same_number_lists}
use borrow.Rule.Slice.PartMut.{put_mid}
use Rattle.base_facts.specs.laws.Bools.{and_parts}
use Rattle.base_facts.specs.laws.Numbers.{lt-or-ge}
use Rattle.grammar.specs.Exp.{Exp, sym}
use Rattle.match_meaning.proofs.laws.One.{one}
use Rattle.grammar_table.specs.Table.{symbol_count, symbol_word, words_from}
use Rattle.grammar_table.specs.Trees.{tree_of, bodies_of}
use Rattle.match_eval.specs.Eval.{ev}
use Rattle.match_cells.specs.Cells.{body_takes, row_of, fill_of, cells}
use Rattle.match_cells.specs.laws.First.{Markings, Ordered}
use Rattle.match_cells.specs.laws.Sound.{plainly, Means}
use Rattle.match_cells.specs.laws.Agrees.{Known, After, Right}
use Rattle.match_cells.specs.laws.Filled.{Room, row-length, row-right, row-frame, filled-right, filled-behind, filled-length}
use Rattle.match_eval.proofs.laws.Memory.{knows-cells, knows-ready, knows-stored, said-body}
use Rattle.match_eval.proofs.laws.Said.{said_same, said-end}
use Rattle.match_cells.specs.laws.Rows.{stored}
use Rattle.match_eval.specs.steps.Firsts.{byte_at, word_of, Heard, Silent, put_said, preset_of}
use Rattle.match_eval.specs.steps.Memory.{Ready, Knows, Front}
use Rattle.match_cells.specs.steps.Runs.{Open, record_of, copy_of, set_by, set_of, Settable, Fillable, fill_by, FilledBy}
use Rattle.match_parts.specs.steps.Lists.{AllListed}
use Rattle.match_parts.specs.laws.Lists.{listed-front}
use Rattle.match_plan.specs.steps.Plan.{opens_of, Recorded, Planned}
use Rattle.match_plan.specs.laws.Plan.{planned-front}
use Rattle.lake_plain.specs.Calls.{holds}
use Rattle.lake_plain.proofs.laws.Exact.{up-l, up-r}
use Rattle.base_words.specs.laws.Members.{bit-pow-same}

-- a cell at a later place stands further on
far : (n p q r x : ℕ) → p < q → r < n → p * n + r < q * n + x
far n p q r x h l = omega (arith, suc-mul p n, mul-le-mul_right {m = suc p} {n = q} n h)

said-length : (w i : ℕ) (cs : List ℕ) → length (put_said w i cs) ≡ length cs
unfolding put_said
said-length zero i cs = refl
said-length (suc v) i cs = length-set cs i v

said-other : (w i : ℕ) (cs : List ℕ) (j : ℕ) → (j ≡ i → ⊥) → get_or (put_said w i cs) j 0 ≡ get_or cs j 0
unfolding put_said
said-other zero i cs j f = refl
said-other (suc v) i cs j f = get_or-set_other cs i j v 0 f

module _ (t mem : List ℕ) (b i : ℕ) where
  pub preset-length : (n : ℕ) (cs : List ℕ) → length (preset_of t mem b i n cs) ≡ length cs
  unfolding preset_of
  preset-length zero cs = refl
  preset-length (suc r) cs = preset-length r (put_said (word_of t mem b r) (i + r) cs) ∙ said-length (word_of t mem b r) (i + r) cs

  pub preset-other : (n : ℕ) (cs : List ℕ) (j : ℕ) → ((r : ℕ) → r < n → j ≡ i + r → ⊥) → get_or (preset_of t mem b i n cs) j 0 ≡ get_or cs j 0
  unfolding preset_of
  preset-other zero cs j f = refl
  preset-other (suc r) cs j f =
      preset-other r (put_said (word_of t mem b r) (i + r) cs) j (λ k l. f k (omega arith)) ∙ said-other (word_of t mem b r) (i + r) cs j (f r (omega arith))

  put-here : (w v k : ℕ) (cs : List ℕ) → w ≡ suc v → k < length cs → get_or (put_said w k cs) k 0 ≡ v
  unfolding put_said
  put-here zero v k cs e l = absurd (omega arith)
  put-here (suc u) v k cs e l = get_or-set_same cs k u 0 l ∙ omega (arith, e)

  pub preset-said : (n : ℕ) (cs : List ℕ) (r v : ℕ) → r < n → i + n ≤ length cs → word_of t mem b r ≡ suc v → get_or (preset_of t mem b i n cs) (i + r) 0 ≡ v
  unfolding preset_of
  preset-said zero cs r v l room e = absurd (omega arith)
  preset-said (suc m) cs r v l room e =
      let k : r ≤ m = omega arith in
      go (eq-or-lt_of_le k) (λ h. preset-said m (put_said (word_of t mem b m) (i + m) cs) r v h (omega (arith, said-length (word_of t mem b m) (i + m) cs)) e)
    where
      next : List ℕ
      next = put_said (word_of t mem b m) (i + m) cs

      go : (r ≡ m) ⊎ (r < m) → (r < m → get_or (preset_of t mem b i m next) (i + r) 0 ≡ v) → get_or (preset_of t mem b i m next) (i + r) 0 ≡ v
      go (inl z) k =
          preset-other m next (i + r) (λ k h a. omega arith) ∙ ap (λ (y : ℕ). get_or next (i + y) 0) z
          ∙ put-here (word_of t mem b m) v (i + m) cs (ap (word_of t mem b) (flip z) ∙ e) (omega arith)
      go (inr h) k = k h

  pub preset-silent : (n : ℕ) (cs : List ℕ) → ((r : ℕ) → word_of t mem b r ≡ 0) → preset_of t mem b i n cs ≡ cs
  unfolding preset_of put_said
  preset-silent zero cs f = refl
  preset-silent (suc r) cs f = ap (λ (w : ℕ). preset_of t mem b i r (put_said w (i + r) cs)) (f r) ∙ preset-silent r cs f

  -- one symbol more, as code does it
  pub preset-skips : (r : ℕ) (cs : List ℕ) → 0 < r → word_of t mem b (r - 1) ≡ 0 → preset_of t mem b i (r - 1) cs ≡ preset_of t mem b i r cs
  unfolding preset_of put_said
  preset-skips zero cs l e = absurd (omega arith)
  preset-skips (suc r) cs l e =
      let z : suc r - 1 ≡ r = omega arith in
      ap (λ (k : ℕ). preset_of t mem b i k cs) z ∙ ap (λ (w : ℕ). preset_of t mem b i r (put_said w (i + r) cs)) (flip e ∙ ap (word_of t mem b) z)

  pub preset-puts : (r w : ℕ) (cs : List ℕ) → 0 < r → w ≡ word_of t mem b (r - 1) → (w ≡ 0 → ⊥)
      → preset_of t mem b i (r - 1) (set cs (i + (r - 1)) (w - 1)) ≡ preset_of t mem b i r cs
  unfolding preset_of put_said
  preset-puts zero w cs l e f = absurd (omega arith)
  preset-puts (suc r) zero cs l e f = absurd (f refl)
  preset-puts (suc r) (suc v) cs l e f =
      let z : suc r - 1 ≡ r = omega arith in
      let y : suc v - 1 ≡ v = omega arith in
      ap (λ (k : ℕ). preset_of t mem b i k (set cs (i + k) (suc v - 1))) z ∙ ap (λ (k : ℕ). preset_of t mem b i r (set cs (i + r) k)) y
      ∙ ap (λ (u : ℕ). preset_of t mem b i r (put_said u (i + r) cs)) (e ∙ ap (word_of t mem b) z)

  pub preset-ends : (r : ℕ) (cs : List ℕ) → r ≤ 0 → cs ≡ preset_of t mem b i r cs
  unfolding preset_of
  preset-ends zero cs l = refl
  preset-ends (suc r) cs l = absurd (omega arith)

-- ── the symbols of which nothing is said ──
module _ (t mem : List ℕ) (b n : ℕ) where
  pub open_none : (w : ℕ) → Open t mem b n n w
  open_none w r l m = absurd (omega arith)

  -- something is said of the symbol before
  pub open_said : (w k v : ℕ) → 0 < k → v ≡ word_of t mem b (k - 1) → (v ≡ 0 → ⊥) → Open t mem b k n w → Open t mem b (k - 1) n w
  open_said w k v z e f o r l m h q = elim (lt-or-ge r k) [
    | inl a ↦ (let g : k - 1 ≡ r = omega (arith, z) in f (e ∙ ap (word_of t mem b) g ∙ q))
    | inr a ↦ o r a m h q
  ]

  -- nothing is, and the word has it from now on
  pub open-with : (w k : ℕ) → 0 < k → Open t mem b k n w → Open t mem b (k - 1) n (bit_or w (2 ^ (k - 1)))
  open-with w k z o r l m h q = elim (lt-or-ge r k) [
    | inl a ↦ (let g : k - 1 ≡ r = omega (arith, z) in true≢false (flip (up-r w (2 ^ (k - 1)) r (ap (λ (j : ℕ). holds (2 ^ (k - 1)) j) (flip g) ∙ ap (λ (y : ℕ). eqb y 1)
        (bit-pow-same (k - 1)))) ∙ h))
    | inr a ↦ kept r a m h q (holds w r) refl
  ]
    where
      kept : (r : ℕ) → k ≤ r → r < n → holds (bit_or w (2 ^ (k - 1))) r ≡ false → word_of t mem b r ≡ 0 → (y : Bool) → holds w r ≡ y → ⊥
      kept r a m h q true e = true≢false (flip (up-l w (2 ^ (k - 1)) r e) ∙ h)
      kept r a m h q false e = o r a m e q

-- ── the text's end: nothing is said, and a word of ones has every symbol ──
all_hold : ℕ → ℕ → Bool
all_hold w zero = true
all_hold w (suc k) = holds w k && all_hold w k

held : (w m : ℕ) → all_hold w m ≡ true → (r : ℕ) → r < m → holds w r ≡ true
unfolding all_hold
held w zero e r l = absurd (omega arith)
held w (suc m) e r l =
    let h = and_parts (holds w m) (all_hold w m) e in
    elim (lt-or-ge r m) [ inl a ↦ held w m h.1 r a | inr a ↦ (let g : m ≡ r = omega arith in subst (λ (j : ℕ). holds w j ≡ true) g h.0) ]

pub open-all : (t mem : List ℕ) (b n : ℕ) → n ≤ 64 → Open t mem b 0 n 18446744073709551615
unfolding all_hold
open-all t mem b n few r l m h q = true≢false (flip (held 18446744073709551615 64 refl r (omega (arith, m, few))) ∙ h)

pub preset-end : (t mem : List ℕ) (b i n : ℕ) (cs : List ℕ) → 256 ≤ b → cs ≡ preset_of t mem b i n cs
preset-end t mem b i n cs l = flip (preset-silent t mem b i n cs (λ r. flip (said-end mem b (symbol_word t r 1) l)))

-- a cell of which something is said stands already as it is to be stored
pub said-stays : (t s cs mem : List ℕ) (n r p k : ℕ) → n ≡ symbol_count t → r < n → p ≤ length s → (word_of t mem (byte_at s p) r ≡ 0 → ⊥)
    → Knows t s cs n mem k p → cs ≡ set cs (p * length (bodies_of t) + r) (body_takes (bodies_of t) s cs r p)
said-stays t s cs mem n r p k q l h f o =
    let y : word_of t mem (byte_at s p) r ≡ suc (word_of t mem (byte_at s p) r - 1) = omega (arith, f) in
    flip (set-get_or cs (p * n + r) 0) ∙ ap (set cs (p * n + r)) (o.heard p (omega arith) h r (word_of t mem (byte_at s p) r - 1) l y)
    ∙ stored t s n q cs r p (symbol_word t r 1) (word_of t mem (byte_at s p) r - 1) l refl
    (flip (o.words (byte_at s p) (symbol_word t r 1) (word_of t mem (byte_at s p) r - 1) y s cs p refl (o.heard p (omega arith) h)))

-- only what is said counts
pub preset-same : (t mem new : List ℕ) (b i n : ℕ) (cs : List ℕ) → Front mem new → preset_of t new b i n cs ≡ preset_of t mem b i n cs
unfolding preset_of
preset-same t mem new b i zero cs f = refl
preset-same t mem new b i (suc r) cs f =
    preset-same t mem new b i r (put_said (word_of t new b r) (i + r) cs) f
    ∙ ap (λ (w : ℕ). preset_of t mem b i r (put_said w (i + r) cs)) (said_same mem new (λ j l m. f j m) b (symbol_word t r 1))

-- ── the words of a record, copied ──
module _ (plan : List ℕ) (o i : ℕ) where
  pub copy-length : (n : ℕ) (cs : List ℕ) → length (copy_of plan o i n cs) ≡ length cs
  unfolding copy_of
  copy-length zero cs = refl
  copy-length (suc r) cs = length-set (copy_of plan o i r cs) (i + r) (get_or plan (o + r) 0) ∙ copy-length r cs

  pub copy-other : (n : ℕ) (cs : List ℕ) (j : ℕ) → ((r : ℕ) → r < n → j ≡ i + r → ⊥) → get_or (copy_of plan o i n cs) j 0 ≡ get_or cs j 0
  unfolding copy_of
  copy-other zero cs j f = refl
  copy-other (suc r) cs j f =
      get_or-set_other (copy_of plan o i r cs) (i + r) j (get_or plan (o + r) 0) 0 (f r (omega arith)) ∙ copy-other r cs j (λ k l. f k (omega arith))

  pub copy-here : (n : ℕ) (cs : List ℕ) (r : ℕ) → r < n → i + n ≤ length cs → get_or (copy_of plan o i n cs) (i + r) 0 ≡ get_or plan (o + r) 0
  unfolding copy_of
  copy-here zero cs r l room = absurd (omega arith)
  copy-here (suc m) cs r l room =
      let k : r ≤ m = omega arith in
      go (eq-or-lt_of_le k) (λ h. copy-here m cs r h (omega arith))
    where
      go : (r ≡ m) ⊎ (r < m) → (r < m → get_or (copy_of plan o i m cs) (i + r) 0 ≡ get_or plan (o + r) 0)
          → get_or (set (copy_of plan o i m cs) (i + m) (get_or plan (o + m) 0)) (i + r) 0 ≡ get_or plan (o + r) 0
      go (inl z) k =
          ap (λ (y : ℕ). get_or (set (copy_of plan o i m cs) (i + m) (get_or plan (o + m) 0)) (i + y) 0) z
          ∙ get_or-set_same (copy_of plan o i m cs) (i + m) (get_or plan (o + m) 0) 0 (omega (arith, copy-length m cs)) ∙ ap (λ (y : ℕ). get_or plan (o + y) 0) (flip z)
      go (inr h) k = get_or-set_other (copy_of plan o i m cs) (i + m) (i + r) (get_or plan (o + m) 0) 0 (λ e. omega (arith, e, h)) ∙ k h

  -- as one copy, as code does it
  module _ (n m : ℕ) (cs ys : List ℕ) (e : m ≡ n) (room : i + n ≤ length cs) (l : length ys ≡ n) (same : (r : ℕ) → r < n → get_or ys r 0 ≡ get_or plan (o + r) 0) where
    pasted-length : length (put_mid i m cs ys) ≡ length cs
    pasted-length = grind (arith, places, e, room, l)

    pasted : (k : ℕ) → k < length cs → (k < i) ⊎ (i ≤ k) → (k < i + n) ⊎ (i + n ≤ k) → get_or (put_mid i m cs ys) k 0 ≡ get_or (copy_of plan o i n cs) k 0
    pasted k h (inl b) g = grind (arith, places, e, room, l, copy-other n cs k (λ r f z. omega (arith, b, z)))
    pasted k h (inr b) (inl g) =
        let z : i + (k - i) ≡ k = omega (arith, b) in
        grind (arith, places, e, room, l, z, b, g, same (k - i) (omega (arith, b, g))) ∙ flip (copy-here n cs (k - i) (omega (arith, b, g)) room) ∙ ap (λ (j : ℕ). get_or (copy_of plan o i n cs) j 0) z
    pasted k h (inr b) (inr g) = grind (arith, places, e, room, l, h, b, g, copy-other n cs k (λ r f z. omega (arith, g, f, z)))

    pub copied : put_mid i m cs ys ≡ copy_of plan o i n cs
    copied =
        same_number_lists (put_mid i m cs ys) (copy_of plan o i n cs) (pasted-length ∙ flip (copy-length n cs))
        (λ k h. pasted k (omega (arith, h, pasted-length)) (lt-or-ge k i) (lt-or-ge k (i + n)))

-- ── either of them ──
module _ (t mem plan : List ℕ) (b i n : ℕ) (cs : List ℕ) where
  set-length : length (set_of t mem plan b i n cs) ≡ length cs
  unfolding set_by
  set-length = go (record_of plan b)
    where
      go : (o : ℕ) → length (set_by o t mem plan b i n cs) ≡ length cs
      go zero = preset-length t mem b i n cs
      go (suc o) = copy-length plan (suc o) i n cs

  set_other : (j : ℕ) → ((r : ℕ) → r < n → j ≡ i + r → ⊥) → get_or (set_of t mem plan b i n cs) j 0 ≡ get_or cs j 0
  unfolding set_by
  set_other j f = go (record_of plan b)
    where
      go : (o : ℕ) → get_or (set_by o t mem plan b i n cs) j 0 ≡ get_or cs j 0
      go zero = preset-other t mem b i n cs j f
      go (suc o) = copy-other plan (suc o) i n cs j f

  set_silent : Silent mem → record_of plan b ≡ 0 → set_of t mem plan b i n cs ≡ cs
  unfolding set_by
  set_silent f e = ap (λ (o : ℕ). set_by o t mem plan b i n cs) e ∙ preset-silent t mem b i n cs (λ r. f b (symbol_word t r 1))

  -- as code does it
  pub set-preset : (new : List ℕ) → Front mem new → record_of plan b ≡ 0 → preset_of t new b i n cs ≡ set_of t mem plan b i n cs
  unfolding set_by
  set-preset new f e = preset-same t mem new b i n cs f ∙ ap (λ (o : ℕ). set_by o t mem plan b i n cs) (flip e)

  pub set-copy : (o : ℕ) → o ≡ record_of plan b → (o ≡ 0 → ⊥) → copy_of plan o i n cs ≡ set_of t mem plan b i n cs
  unfolding set_by
  set-copy o e f = go o f ∙ ap (λ (o : ℕ). set_by o t mem plan b i n cs) e
    where
      go : (o : ℕ) → (o ≡ 0 → ⊥) → copy_of plan o i n cs ≡ set_by o t mem plan b i n cs
      go zero f = absurd (f refl)
      go (suc o) f = refl

-- a place's cells are among all
pub room_at : (s cs : List ℕ) (n p : ℕ) → p ≤ length s → (length s + 1) * n ≤ length cs → p * n + n ≤ length cs
room_at s cs n p within room = omega (arith, suc-mul p n, mul-le-mul_right {m = suc p} {n = length s + 1} n (omega arith), room)

-- ── what is known stays so, and the place's cells are heard ──
module _ (t s cs mem : List ℕ) (n p b : ℕ) (e : b ≡ byte_at s p) (within : p ≤ length s) where
  -- cells of the place were set
  knows_set : (new : List ℕ) → ((j : ℕ) → ((r : ℕ) → r < n → j ≡ p * n + r → ⊥) → get_or new j 0 ≡ get_or cs j 0) → Heard t mem s new n p
      → Knows t s cs n mem (p + 1) (p + 1) → Knows t s new n mem (p + 1) p
  knows_set new f here w = knows-cells t s cs mem n (p + 1) p (p + 1) new w behind (λ q h m. go q m (eq-or-lt_of_le h))
    where
      behind : (j : ℕ) → (p + 1) * n ≤ j → get_or new j 0 ≡ get_or cs j 0
      behind j h =
          let z : (p + 1) * n ≡ suc p * n = ap (λ (k : ℕ). k * n) (add-one p) in
          f j (λ r l a. omega (arith, z, suc-mul p n, h, a, l))

      go : (q : ℕ) → q ≤ length s → (p ≡ q) ⊎ (p < q) → Heard t mem s new n q
      go q m (inl a) = subst (λ (k : ℕ). Heard t mem s new n k) a here
      go q m (inr a) = λ r v l d. behind (q * n + r) (omega (arith, mul-le-mul_right {m = p + 1} {n = q} n (omega arith))) ∙ w.heard q (omega arith) m r v l d

  pub knows-preset : (plan : List ℕ) → Settable mem plan s n (length cs) → Knows t s cs n mem (p + 1) (p + 1)
      → Knows t s (preset_of t mem b (p * n) n cs) n mem (p + 1) p
  knows-preset plan settable = knows_set (preset_of t mem b (p * n) n cs) (preset-other t mem b (p * n) n cs) (here settable)
    where
      here : Settable mem plan s n (length cs) → Heard t mem s (preset_of t mem b (p * n) n cs) n p
      here (inl room) r v l a = preset-said t mem b (p * n) n cs r v l (room_at s cs n p within room) (ap (λ (d : ℕ). word_of t mem d r) e ∙ a)
      here (inr (quiet, none)) r v l a = absurd (omega (arith, quiet (byte_at s p) (symbol_word t r 1), a))

  pub knows_copy : (plan order : List ℕ) (o : ℕ) → (length s + 1) * n ≤ length cs → Recorded t mem order n plan b o → Knows t s cs n mem (p + 1) (p + 1)
      → Knows t s (copy_of plan o (p * n) n cs) n mem (p + 1) p
  knows_copy plan order o room w =
      knows_set (copy_of plan o (p * n) n cs) (copy-other plan o (p * n) n cs)
      (λ r v l a. copy-here plan o (p * n) n cs r l (room_at s cs n p within room) ∙ w.row r v l (ap (λ (d : ℕ). word_of t mem d r) e ∙ a))

-- ── only open symbols are evaluated: the others stand already as they are to be stored ──
module _ (t s mem : List ℕ) (n p b : ℕ) (e : b ≡ byte_at s p) (q : n ≡ symbol_count t) (h : p ≤ length s) (order : List ℕ) where
  pub row_opens : (k i : ℕ) (cs : List ℕ) → ((j : ℕ) → i ≤ j → j < i + k → get_or order j 0 < n) → Knows t s cs n mem (p + 1) p
      → row_of (bodies_of t) s p (opens_of t mem b (words_from order i k)) cs ≡ row_of (bodies_of t) s p (words_from order i k) cs
  unfolding row_of opens_of words_from
  row_opens zero i cs m w = refl
  row_opens (suc k) i cs m w =
      go (λ found. row_opens k (suc i) next (λ j l g. m j (omega arith) (omega arith)) found) (row_opens k (suc i) cs (λ j l g. m j (omega arith) (omega arith)) w)
      (ℕ_discrete (word_of t mem b r) 0)
    where
      r : ℕ
      r = get_or order i 0

      small : r < n
      small = m i (omega arith) (omega arith)

      next : List ℕ
      next = set cs (p * length (bodies_of t) + r) (body_takes (bodies_of t) s cs r p)

      rest : List ℕ
      rest = opens_of t mem b (words_from order (suc i) k)

      found : Knows t s next n mem (p + 1) p
      found =
          subst (λ (y : List ℕ). Knows t s y n mem (p + 1) p) (stored t s n q cs r p (symbol_word t r 1) (ev s cs n (tree_of t (symbol_word t r 1)) p) small refl refl)
          (knows-stored t s cs mem n p r (ev s cs n (tree_of t (symbol_word t r 1)) p) small
          (λ u k. said-body t s cs mem n (p + 1) p w r (ev s cs n (tree_of t (symbol_word t r 1)) p) u h refl k) w)

      go : (Knows t s next n mem (p + 1) p → row_of (bodies_of t) s p rest next ≡ row_of (bodies_of t) s p (words_from order (suc i) k) next)
          → row_of (bodies_of t) s p rest cs ≡ row_of (bodies_of t) s p (words_from order (suc i) k) cs → Dec (word_of t mem b r ≡ 0)
          → row_of (bodies_of t) s p (cond (eqb (word_of t mem b r) 0) (r ∷ rest) rest) cs ≡ row_of (bodies_of t) s p (words_from order (suc i) k) next
      go more same (yes z) =
          ap (λ (c : Bool). row_of (bodies_of t) s p (cond c (r ∷ rest) rest) cs) (eq-eqb (word_of t mem b r) 0 z) ∙ more found
      go more same (no f) =
          ap (λ (c : Bool). row_of (bodies_of t) s p (cond c (r ∷ rest) rest) cs) (ne_eqb (word_of t mem b r) 0 f) ∙ same
          ∙ ap (row_of (bodies_of t) s p (words_from order (suc i) k))
          (said-stays t s cs mem n r p (p + 1) q small h (λ z. f (ap (λ (d : ℕ). word_of t mem d r) e ∙ z)) w)

-- before the last place is filled
pub fillable-first : (t s cs order lists : List ℕ) (n : ℕ) {mem plan : List ℕ} → n ≡ symbol_count t → n ≤ 64 → ((j : ℕ) → j < n → get_or order j 0 < n) → length s ≤ 65535
    → Ready t n mem → Settable mem plan s n (length cs) → Planned t mem order n plan → ((b : ℕ) → (record_of plan b ≡ 0 → ⊥) → AllListed t mem n lists)
    → Fillable t s cs mem order plan lists (symbol_count t) (length s + 1)
fillable-first t s cs order lists n {mem} {plan} e l f h w r o a = subst (λ (m : ℕ). Fillable t s cs mem order plan lists m (length s + 1)) e (record {
  few = l;
  symbols = f;
  short = h;
  within = omega arith;
  known = knows-ready t s cs mem n (length s + 1) (length s + 1) (omega arith) w;
  settable = r;
  planned = o;
  listed = a;
})

settable-front : (old new plan s : List ℕ) (n have got : ℕ) → Front old new → got ≡ have → Settable old plan s n have → Settable new plan s n got
settable-front old new plan s n have got f e (inl h) = inl (omega (arith, h, e))
settable-front old new plan s n have got f e (inr (q, none)) = inr ((λ b x. said_same old new (λ j l m. f j m) b x ∙ q b x), none)

-- before the place below i is
pub fillable-next : (t s cs ds old new order plan lists : List ℕ) (n k i : ℕ) → 0 < i → i ≤ k → Front old new → length ds ≡ length cs → Knows t s ds n new i i
    → Fillable t s cs old order plan lists n k → Fillable t s ds new order plan lists n (i - 1 + 1)
fillable-next t s cs ds old new order plan lists n k i z l f e w h =
    let y : i ≡ i - 1 + 1 = omega arith in
    record {
      few = h.few;
      symbols = h.symbols;
      short = h.short;
      within = omega (arith, h.within);
      known = subst (λ (j : ℕ). Knows t s ds n new j j) y w;
      settable = settable-front old new plan s n (length cs) (length ds) f e h.settable;
      planned = planned-front t old new f order n plan h.planned;
      listed = λ b g. listed-front t old new n lists f (h.listed b g);
    }

-- ── the record of a byte, as code looks it up ──
module _ (plan : List ℕ) (b : ℕ) where
  pub record-end : 256 ≤ b → 0 ≡ record_of plan b
  record-end h = flip (ap (λ (d : Bool). cond d (get_or plan b 0) 0) (le-ltb b 256 h))

  pub record-byte : (w : ℕ) → b < 256 → w ≡ get_or plan b 0 → w ≡ record_of plan b
  record-byte w h f = f ∙ flip (ap (λ (d : Bool). cond d (get_or plan b 0) 0) (lt-ltb b 256 h))

  -- where there is one, it is right
  pub record-said : (t mem order : List ℕ) (n o : ℕ) → Planned t mem order n plan → (o ≡ 0 → ⊥) → o ≡ record_of plan b → Recorded t mem order n plan b o
  record-said t mem order n o w f e = elim (lt-or-ge b 256) [
    | inl l ↦ (let g : o ≡ get_or plan b 0 = e ∙ ap (λ (d : Bool). cond d (get_or plan b 0) 0) (lt-ltb b 256 l) in
        subst (Recorded t mem order n plan b) (flip g) (w.records b l (λ z. f (g ∙ z))))
    | inr l ↦ absurd (f (e ∙ flip (record-end l)))
  ]

  -- a plan of nothing but 0 has none
  pub record-none : ((j : ℕ) → get_or plan j 0 ≡ 0) → record_of plan b ≡ 0
  record-none z = ap (λ (w : ℕ). cond (ltb b 256) w 0) (z b) ∙ same (ltb b 256)
    where
      same : (c : Bool) → ◌≡◌ {A = ℕ} (cond c 0 0) 0
      same true = refl
      same false = refl

-- where there is a record, there are cells for every place
pub record-room : (mem plan s : List ℕ) (n have b : ℕ) → (record_of plan b ≡ 0 → ⊥) → Settable mem plan s n have → (length s + 1) * n ≤ have
record-room mem plan s n have b f (inl h) = h
record-room mem plan s n have b f (inr (q, none)) = absurd (f (none b))

-- ── place after place, as code does it ──
pub by-more : (t mem plan : List ℕ) (bodies : List (Exp ℕ)) (s : List ℕ) (n : ℕ) (order cs new : List ℕ) (k : ℕ) → 0 < k
    → new ≡ row_of bodies s (k - 1) order (set_of t mem plan (byte_at s (k - 1)) ((k - 1) * n) n cs) → fill_by t mem plan bodies s n (k - 1) order new ≡ fill_by t mem plan bodies s n k order cs
unfolding fill_by
by-more t mem plan bodies s n order cs new zero l q = absurd (omega arith)
by-more t mem plan bodies s n order cs new (suc k) l q =
    let z : suc k - 1 ≡ k = omega arith in
    ap (λ (j : ℕ). fill_by t mem plan bodies s n j order new) z
    ∙ ap (fill_by t mem plan bodies s n k order) (q ∙ ap (λ (j : ℕ). row_of bodies s j order (set_of t mem plan (byte_at s j) (j * n) n cs)) z)

pub by_end : (t mem plan : List ℕ) (bodies : List (Exp ℕ)) (s : List ℕ) (n : ℕ) (order cs : List ℕ) (k : ℕ) → k ≤ 0 → cs ≡ fill_by t mem plan bodies s n k order cs
unfolding fill_by
by_end t mem plan bodies s n order cs zero l = refl
by_end t mem plan bodies s n order cs (suc k) l = absurd (omega arith)

-- ── the cells are right, whatever was set ──
module _ (t mem plan : List ℕ) (bodies : List (Exp ℕ)) (s : List ℕ) where
  abbrev set_at : ℕ → List ℕ → List ℕ
  set_at p cs = set_of t mem plan (byte_at s p) (p * length bodies) (length bodies) cs

  by_length : (order : List ℕ) (p : ℕ) (cs : List ℕ) → length (fill_by t mem plan bodies s (length bodies) p order cs) ≡ length cs
  unfolding fill_by
  by_length order zero cs = refl
  by_length order (suc p) cs =
      by_length order p (row_of bodies s p order (set_at p cs)) ∙ row-length bodies s order (set_at p cs) p
      ∙ set-length t mem plan (byte_at s p) (p * length bodies) (length bodies) cs

  module _ (m : ℕ → Bool) (marked : Markings m bodies) (order : List ℕ) (ordered : Ordered m bodies [] order) where
    by_right : (p : ℕ) (cs : List ℕ) → p ≤ length s + 1 → Room bodies s cs
        → ((q x : ℕ) → p ≤ q → q ≤ length s → x < length bodies → Known bodies s cs q x) → Right bodies s (fill_by t mem plan bodies s (length bodies) p order cs)
    unfolding fill_by
    by_right zero cs h room a = λ q x i l. a q x (omega arith) i l
    by_right (suc p) cs h room a = by_right p (row_of bodies s p order next) (omega arith) (rw (row-length bodies s order next p, long) room) (λ q x k i l. go q x i l (eq-or-lt_of_le k))
      where
        next : List ℕ
        next = set_at p cs

        long : length next ≡ length cs
        long = set-length t mem plan (byte_at s p) (p * length bodies) (length bodies) cs

        after : After bodies s next p
        after q x k i l =
            subst (λ (y : ℕ). Means bodies s (sym x) q y)
            (flip (set_other t mem plan (byte_at s p) (p * length bodies) (length bodies) cs (q * length bodies + x) (λ r g e. omega (arith, far (length bodies) p q r x k g, e))))
            (a q x k i l)

        both : After bodies s (row_of bodies s p order next) p × ((x : ℕ) → x < length bodies → Known bodies s (row_of bodies s p order next) p x)
        both = row-right bodies s m marked order [] p next (omega arith) (rw long room) after (λ x e. absurd e) ordered

        go : (q x : ℕ) → q ≤ length s → x < length bodies → (p ≡ q) ⊎ (p < q) → Known bodies s (row_of bodies s p order next) q x
        go q x i l (inl e) = subst (λ (y : ℕ). Known bodies s (row_of bodies s p order next) y x) e (both.1 x l)
        go q x i l (inr k) = both.0 q x k i l

    by-behind : (p : ℕ) (cs : List ℕ) (i : ℕ) → p ≤ length s + 1 → (length s + 1) * length bodies ≤ i
        → get_or (fill_by t mem plan bodies s (length bodies) p order cs) i 0 ≡ get_or cs i 0
    unfolding fill_by
    by-behind zero cs i h l = refl
    by-behind (suc p) cs i h l =
        by-behind p (row_of bodies s p order (set_at p cs)) i (omega arith) l ∙ row-frame bodies s m marked order [] p (set_at p cs) i (omega arith) l ordered
        ∙ set_other t mem plan (byte_at s p) (p * length bodies) (length bodies) cs i
        (λ r g e. omega (arith, far (length bodies) p (length s + 1) r 0 (omega arith) g, e))

-- ── right cells are one ──
-- an index below k rows of n is in one of them
split : (k n i : ℕ) → i < k * n → (q : ℕ) × (x : ℕ) × (q < k) × (x < n) × (i ≡ q * n + x)
split zero n i h = absurd (omega arith)
split (suc k) n i h = go (lt-or-ge i (k * n)) (λ l. split k n i l)
  where
    go : (i < k * n) ⊎ (k * n ≤ i) → (i < k * n → (q : ℕ) × (x : ℕ) × (q < k) × (x < n) × (i ≡ q * n + x))
        → (q : ℕ) × (x : ℕ) × (q < suc k) × (x < n) × (i ≡ q * n + x)
    go (inl l) f = ((f l).0, (f l).1, omega (arith, (f l).2), (f l).3, (f l).4)
    go (inr l) f = (k, i - k * n, omega arith, omega (arith, suc-mul k n), omega arith)

right-one : (bodies : List (Exp ℕ)) (s cs ds : List ℕ) → Right bodies s cs → Right bodies s ds → length cs ≡ length ds
    → ((i : ℕ) → (length s + 1) * length bodies ≤ i → get_or cs i 0 ≡ get_or ds i 0) → cs ≡ ds
right-one bodies s cs ds a c l f = ext_get_or 0 cs ds l (λ i h. go i (lt-or-ge i ((length s + 1) * length bodies)))
  where
    cell : (i : ℕ) → (q : ℕ) × (x : ℕ) × (q < length s + 1) × (x < length bodies) × (i ≡ q * length bodies + x) → get_or cs i 0 ≡ get_or ds i 0
    cell i (q, x, h, g, e) =
        ap (λ (j : ℕ). get_or cs j 0) e ∙ (one (plainly bodies) s (a q x (omega arith) g 0).1 (c q x (omega arith) g 0).1).0 ∙ flip (ap (λ (j : ℕ). get_or ds j 0) e)

    go : (i : ℕ) → (i < (length s + 1) * length bodies) ⊎ ((length s + 1) * length bodies ≤ i) → get_or cs i 0 ≡ get_or ds i 0
    go i (inl h) = cell i (split (length s + 1) (length bodies) i h)
    go i (inr h) = f i h

-- without words nothing is set
by-silent : (t mem plan : List ℕ) (bodies : List (Exp ℕ)) (s order : List ℕ) → Silent mem → ((b : ℕ) → record_of plan b ≡ 0) → (p : ℕ) (cs : List ℕ)
    → fill_by t mem plan bodies s (length bodies) p order cs ≡ fill_of bodies s p order cs
unfolding fill_by fill_of
by-silent t mem plan bodies s order f none zero cs = refl
by-silent t mem plan bodies s order f none (suc p) cs =
    ap (λ (l : List ℕ). fill_by t mem plan bodies s (length bodies) p order (row_of bodies s p order l))
    (set_silent t mem plan (byte_at s p) (p * length bodies) (length bodies) cs f (none (byte_at s p)))
    ∙ by-silent t mem plan bodies s order f none p (row_of bodies s p order cs)

pub filled-same : (t : List ℕ) (bodies : List (Exp ℕ)) (s : List ℕ) (m : ℕ → Bool) → Markings m bodies → (order old new : List ℕ) → Ordered m bodies [] order
    → FilledBy t bodies s (length bodies) order old new → new ≡ cells bodies order s old
unfolding cells
filled-same t bodies s m marked order old new o (mem, plan, settable, e) = e ∙ go settable
  where
    made : List ℕ
    made = fill_by t mem plan bodies s (length bodies) (length s + 1) order old

    go : Settable mem plan s (length bodies) (length old) → made ≡ cells bodies order s old
    go (inl room) =
        right-one bodies s made (cells bodies order s old)
        (by_right t mem plan bodies s m marked order o (length s + 1) old (omega arith) room (λ q x k i l. absurd (omega arith)))
        (filled-right bodies s m marked order old o room)
        (by_length t mem plan bodies s order (length s + 1) old ∙ flip (filled-length bodies s order old))
        (λ i l. by-behind t mem plan bodies s m marked order o (length s + 1) old i (omega arith) l ∙ flip (filled-behind bodies s m marked order old o i l))
    go (inr (silent, none)) = by-silent t mem plan bodies s order silent none (length s + 1) old
