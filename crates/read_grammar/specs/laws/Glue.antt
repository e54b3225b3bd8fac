-- The reading functions' promises, put together: one law for each way through the code. Assumes nothing.
use Rattle.std.specs.Prelude.{ℕ, ◌+◌, ◌-◌, ◌≤◌, ◌<◌, ◌≡◌, refl, true, false, length, get_or}
use Rattle.std.proofs.Common.{sym, ◌∙◌, arith}
use Rattle.std.proofs.Math.Path.{ap, subst}
use mathlib.Core.List.{List, [], ◌∷◌}
use Rattle.std.proofs.Math.Option.{some}
use Rattle.read_tokens.specs.declared.Mode.{Mode}
use Rattle.std.specs.Prelude.{Some, None}
use Rattle.read_tokens.specs.declared.Kind.{Kind}
use Rattle.read_tokens.specs.declared.Kind.TheVariants.{End, Slash, Opens}
use Rattle.read_tokens.specs.declared.Token.{Token}
use Rattle.read_tokens.specs.Token.{Symbol, Prefix, amp, bang, Suffix, query, asterisk, cross, Tok, symbol, leaf, pre, suf, slash, opens, closes}
use Rattle.read_tokens.specs.Tokens.{token_at}
use Rattle.read_tokens.specs.steps.Code.{kind_of, kind_number, symbolic, coded}
use Rattle.grammar.specs.Exp.{Exp}
use Rattle.grammar.specs.Parts.{sequence, choice, option, repeat, repeat1, affirms, denies}
use Rattle.grammar_table.specs.Table.{part_by}
use Rattle.grammar.specs.Syntax.{Choice, Sequence, Prefixed, Suffixed, Primary, one, or, first, next, only, then}
use Rattle.grammar.specs.Trees.{prefixed, suffixed, tree_c, tree_s, tree_p, tree_f, tree_q}
use Rattle.read_syntax.specs.Reader.{ok, begins, suf_by, choice_p, choice_r, seq_p, seq_r, pref_p, prim_p}
use Rattle.read_entries.specs.steps.Entries.{pushed, prefix_op, suffix_op}
use Rattle.read_grammar.specs.steps.Lay.{St, joined, under, lay, Rel}
use Rattle.read_grammar.specs.steps.Promises.{toks_at, Over, Occurs, Matches, Grown, Suffixes}
use Rattle.read_grammar.specs.laws.Grows.{lay-grows}
use Rattle.read_grammar.specs.laws.Stores.{rel-under, rel_join}
use Rattle.read_grammar.specs.laws.Places.{kind_l, kind-is, the-token, toks_more, next-over, next-long, start-within, end-over, no-toks, is-symbol, leafy, is_leaf, symbol-room}
use Rattle.read_grammar.specs.laws.Reads.{same_ok, choice-begins, choice-turn, choice-halt, seq-begins, seq-turn, seq-halt, pre_op, suf_op, pre-inv, suf-inv, suf_by-no, pref-pre, pref-bare, prim-open, prim-symbol, prim-leaf, prim-none, prim-other, NoPart, is-slash, is-opens, none-some}

-- ── choices ──
pub record LoopC (m : Mode) (s : List ℕ) (i₀ : ℕ) (t₁ : List ℕ) (i : ℕ) (t : List ℕ) : Type 0 where
  pub on : (f : ℕ) (c : Choice) (r : List Tok) (b : Choice) → choice_r f b (toks_at m s i₀) ≡ ok c r
      → (g : ℕ) × (d : Choice) × (choice_r g d (toks_at m s i) ≡ ok c r) × ((u : St) → Rel t₁ (lay (tree_c b) u) → Rel t (lay (tree_c d) u))

pub loop-c : (m : Mode) (s : List ℕ) (i : ℕ) (t : List ℕ) → LoopC m s i t i t
loop-c m s i t = record { on = λ f c r b e. (f, b, e, λ u p. p) }

rel-choice : (t t₂ t₃ : List ℕ) (a : ℕ) (e g : Exp Symbol) (w : St) → a ≡ get_or t 2 0 → t₃ ≡ pushed 3 (a - 1) (get_or t₂ 2 0 - 1) t₂ → Rel t (lay e w) → Rel t₂ (lay g (lay e w)) → Rel t₃ (joined choice (lay e w) (lay g (lay e w)))
unfolding part_by
rel-choice t t₂ t₃ a e g w h p q r = subst (λ (x : List ℕ). Rel x (joined choice (lay e w) (lay g (lay e w)))) (sym p) (rel_join 3 choice (λ x y. refl) t t₂ a (lay e w) (lay g (lay e w)) h q r (lay-grows g (lay e w)))

rel-sequence : (t t₂ t₃ : List ℕ) (a : ℕ) (e g : Exp Symbol) (w : St) → a ≡ get_or t 2 0 → t₃ ≡ pushed 2 (a - 1) (get_or t₂ 2 0 - 1) t₂ → Rel t (lay e w) → Rel t₂ (lay g (lay e w)) → Rel t₃ (joined sequence (lay e w) (lay g (lay e w)))
unfolding part_by
rel-sequence t t₂ t₃ a e g w h p q r = subst (λ (x : List ℕ). Rel x (joined sequence (lay e w) (lay g (lay e w)))) (sym p) (rel_join 2 sequence (λ x y. refl) t t₂ a (lay e w) (lay g (lay e w)) h q r (lay-grows g (lay e w)))

pub more-c : {m : Mode} {s : List ℕ} {i₀ i nx to a : ℕ} {t₁ t t₂ t₃ : List ℕ} → LoopC m s i₀ t₁ i t → kind_l (toks_at m s i) ≡ Slash → Over m s i nx → a ≡ get_or t 2 0
    → Grown seq_p tree_s m s nx to t t₂ → t₃ ≡ pushed 3 (a - 1) (get_or t₂ 2 0 - 1) t₂ → LoopC m s i₀ t₁ to t₃
unfolding lay tree_c
more-c {m} {s} {i₀} {i} {nx} {to} {a} {t₁} {t} {t₂} {t₃} l k o h q p = record {
  on = λ f c r b e.
      let u = l.on f c r b e in
      let w = is-slash (toks_at m s i) k in
      let x = (o.behind slash w.0 w.1).1 in
      let v = choice-turn u.0 u.1 w.0 c r (ap (λ (y : List Tok). choice_r u.0 u.1 y) (sym w.1) ∙ u.2) in
      let y = q.same v.0 v.1 v.2 (ap (λ (y : List Tok). seq_p v.0 y) x ∙ v.3) in (
        v.0,
        or u.1 v.1,
        ap (λ (z : List Tok). choice_r v.0 (or u.1 v.1) z) y.0 ∙ v.4,
        λ z j. rel-choice t t₂ t₃ a (tree_c u.1) (tree_s v.1) z h p (u.3 z j) (y.1 (lay (tree_c u.1) z) (u.3 z j)),
      );
}

pub end-c : {m : Mode} {s : List ℕ} {at i₀ i : ℕ} {old t₁ t : List ℕ} → Grown seq_p tree_s m s at i₀ old t₁ → LoopC m s i₀ t₁ i t → i₀ ≤ i → i ≤ length s → (kind_l (toks_at m s i) ≡ Slash → ⊥)
    → Grown choice_p tree_c m s at i old t
unfolding tree_c
end-c {m} {s} {at} {i₀} {i} {old} {t₁} {t} q l a b k = record {
  low = omega (arith, q.low);
  high = b;
  forth = λ h. omega (arith, q.forth h);
  same = λ f c r e.
      let u = choice-begins f (toks_at m s at) c r e in
      let w = q.same u.0 u.1 u.2 u.3 in
      let v = l.on u.0 c r (one u.1) (ap (λ (x : List Tok). choice_r u.0 (one u.1) x) w.0 ∙ u.4) in
      let z = choice-halt v.0 v.1 (toks_at m s i) c r k v.2 in
      (z.1, λ x j. subst (λ (y : Choice). Rel t (lay (tree_c y) x)) z.0 (v.3 x (w.1 x j)));
}

-- ── sequences ──
pub record LoopS (m : Mode) (s : List ℕ) (i₀ : ℕ) (t₁ : List ℕ) (i : ℕ) (t : List ℕ) : Type 0 where
  pub on : (f : ℕ) (c : Sequence) (r : List Tok) (b : Sequence) → seq_r f b (toks_at m s i₀) ≡ ok c r
      → (g : ℕ) × (d : Sequence) × (seq_r g d (toks_at m s i) ≡ ok c r) × ((u : St) → Rel t₁ (lay (tree_s b) u) → Rel t (lay (tree_s d) u))

pub loop-s : (m : Mode) (s : List ℕ) (i : ℕ) (t : List ℕ) → LoopS m s i t i t
loop-s m s i t = record { on = λ f c r b e. (f, b, e, λ u p. p) }

pub more-s : {m : Mode} {s : List ℕ} {i₀ i to a : ℕ} {t₁ t t₂ t₃ : List ℕ} → LoopS m s i₀ t₁ i t → begins (toks_at m s i) ≡ true → a ≡ get_or t 2 0
    → Grown pref_p tree_p m s i to t t₂ → t₃ ≡ pushed 2 (a - 1) (get_or t₂ 2 0 - 1) t₂ → LoopS m s i₀ t₁ to t₃
unfolding lay tree_c
more-s {m} {s} {i₀} {i} {to} {a} {t₁} {t} {t₂} {t₃} l k h q p = record {
  on = λ f c r b e.
      let u = l.on f c r b e in
      let v = seq-turn u.0 u.1 (toks_at m s i) c r k u.2 in
      let y = q.same v.0 v.1 v.2 v.3 in (
        v.0,
        next u.1 v.1,
        ap (λ (z : List Tok). seq_r v.0 (next u.1 v.1) z) y.0 ∙ v.4,
        λ z j. rel-sequence t t₂ t₃ a (tree_s u.1) (tree_p v.1) z h p (u.3 z j) (y.1 (lay (tree_s u.1) z) (u.3 z j)),
      );
}

pub end-s : {m : Mode} {s : List ℕ} {at i₀ i : ℕ} {old t₁ t : List ℕ} → Grown pref_p tree_p m s at i₀ old t₁ → LoopS m s i₀ t₁ i t → i₀ ≤ i → i ≤ length s → begins (toks_at m s i) ≡ false
    → Grown seq_p tree_s m s at i old t
unfolding tree_c
end-s {m} {s} {at} {i₀} {i} {old} {t₁} {t} q l a b k = record {
  low = omega (arith, q.low);
  high = b;
  forth = λ h. omega (arith, q.forth h);
  same = λ f c r e.
      let u = seq-begins f (toks_at m s at) c r e in
      let w = q.same u.0 u.1 u.2 u.3 in
      let v = l.on u.0 c r (first u.1) (ap (λ (x : List Tok). seq_r u.0 (first u.1) x) w.0 ∙ u.4) in
      let z = seq-halt v.0 v.1 (toks_at m s i) c r k v.2 in
      (z.1, λ x j. subst (λ (y : Sequence). Rel t (lay (tree_s y) x)) z.0 (v.3 x (w.1 x j)));
}

-- ── suffixes ──
rel-suffix : (y : Suffix) (p : ℕ) → p ≡ suf_op y → (old new : List ℕ) (e : Exp Symbol) (u : St) → new ≡ pushed p (get_or old 2 0 - 1) 0 old → Rel old (lay e u) → Rel new (lay (suffixed y e) u)
unfolding lay part_by
rel-suffix query p h old new e u q r = subst (λ (x : List ℕ). Rel x (under option (lay e u))) (sym (q ∙ ap (λ (k : ℕ). pushed k (get_or old 2 0 - 1) 0 old) h)) (rel-under 4 option (λ x. refl) old (lay e u) r)
rel-suffix asterisk p h old new e u q r = subst (λ (x : List ℕ). Rel x (under repeat (lay e u))) (sym (q ∙ ap (λ (k : ℕ). pushed k (get_or old 2 0 - 1) 0 old) h)) (rel-under 5 repeat (λ x. refl) old (lay e u) r)
rel-suffix cross p h old new e u q r = subst (λ (x : List ℕ). Rel x (under repeat1 (lay e u))) (sym (q ∙ ap (λ (k : ℕ). pushed k (get_or old 2 0 - 1) 0 old) h)) (rel-under 6 repeat1 (λ x. refl) old (lay e u) r)

rel-prefix : (y : Prefix) (p : ℕ) → p ≡ pre_op y → (old new : List ℕ) (e : Exp Symbol) (u : St) → new ≡ pushed p (get_or old 2 0 - 1) 0 old → Rel old (lay e u) → Rel new (lay (prefixed y e) u)
unfolding lay part_by
rel-prefix amp p h old new e u q r = subst (λ (x : List ℕ). Rel x (under affirms (lay e u))) (sym (q ∙ ap (λ (k : ℕ). pushed k (get_or old 2 0 - 1) 0 old) h)) (rel-under 7 affirms (λ x. refl) old (lay e u) r)
rel-prefix bang p h old new e u q r = subst (λ (x : List ℕ). Rel x (under denies (lay e u))) (sym (q ∙ ap (λ (k : ℕ). pushed k (get_or old 2 0 - 1) 0 old) h)) (rel-under 8 denies (λ x. refl) old (lay e u) r)

pub suf-yes : {m : Mode} {s : List ℕ} {at nx p : ℕ} {old new : List ℕ} → suffix_op (kind_l (toks_at m s at)) ≡ Some p → Over m s at nx → new ≡ pushed p (get_or old 2 0 - 1) 0 old → Suffixes m s at nx old new
unfolding tree_c suf_by
suf-yes {m} {s} {at} {nx} {p} {old} {new} k o q =
    let v = suf-inv (toks_at m s at) p k in
    record {
      low = o.low;
      high = o.high;
      same = λ x e r h.
          let w = same_ok (then x v.0) e v.1 r (sym (ap (λ (l : List Tok). suf_by x l) v.2) ∙ h) in
          ((o.behind (suf v.0) v.1 v.2).1 ∙ w.1, λ u j. subst (λ (y : Suffixed). Rel new (lay (tree_f y) u)) w.0 (rel-suffix v.0 p v.3 old new (tree_q x) u q j));
    }

pub suf-no : {m : Mode} {s : List ℕ} {at : ℕ} {old : List ℕ} → suffix_op (kind_l (toks_at m s at)) ≡ None → at ≤ length s → Suffixes m s at at old old
unfolding tree_c
suf-no {m} {s} {at} {old} k b = record {
  low = omega arith;
  high = b;
  same = λ x e r h.
      let w = same_ok (only x) e (toks_at m s at) r (sym (suf_by-no x (toks_at m s at) k) ∙ h) in
      (w.1, λ u j. subst (λ (y : Suffixed). Rel old (lay (tree_f y) u)) w.0 j);
}

-- ── prefixes ──
pub with-pre : {m : Mode} {s : List ℕ} {at nx a b p : ℕ} {old t₁ t₂ new : List ℕ} → prefix_op (kind_l (toks_at m s at)) ≡ Some p → Over m s at nx → Grown prim_p tree_q m s nx a old t₁ → Suffixes m s a b t₁ t₂
    → new ≡ pushed p (get_or t₂ 2 0 - 1) 0 t₂ → Grown pref_p tree_p m s at b old new
unfolding tree_c
with-pre {m} {s} {at} {nx} {a} {b} {p} {old} {t₁} {t₂} {new} k o g x q =
    let v = pre-inv (toks_at m s at) p k in
    let j = o.behind (pre v.0) v.1 v.2 in
    record {
      low = omega (arith, o.low, g.low, x.low);
      high = x.high;
      forth = λ h. omega (arith, j.0, g.low, x.low);
      same = λ f e r h.
          let u = pref-pre f v.0 v.1 e r (ap (λ (l : List Tok). pref_p f l) (sym v.2) ∙ h) in
          let w = g.same u.0 u.1 u.2 (ap (λ (l : List Tok). prim_p u.0 l) j.1 ∙ u.4) in
          let y = x.same u.1 u.3 r (ap (λ (l : List Tok). suf_by u.1 l) w.0 ∙ u.5) in
          (y.0, λ n i. subst (λ (d : Prefixed). Rel new (lay (tree_p d) n)) u.6 (rel-prefix v.0 p v.3 t₂ new (tree_f u.3) n q (y.1 n (w.1 n i))));
    }

pub without-pre : {m : Mode} {s : List ℕ} {at a b : ℕ} {old t₁ new : List ℕ} → prefix_op (kind_l (toks_at m s at)) ≡ None → Grown prim_p tree_q m s at a old t₁ → Suffixes m s a b t₁ new → Grown pref_p tree_p m s at b old new
unfolding tree_c
without-pre {m} {s} {at} {a} {b} {old} {t₁} {new} k g x = record {
  low = omega (arith, g.low, x.low);
  high = x.high;
  forth = λ h. omega (arith, g.forth h, x.low);
  same = λ f e r h.
      let u = pref-bare f (toks_at m s at) e r k h in
      let w = g.same u.0 u.1 u.2 u.4 in
      let y = x.same u.1 u.3 r (ap (λ (l : List Tok). suf_by u.1 l) w.0 ∙ u.5) in
      (y.0, λ n i. subst (λ (d : Prefixed). Rel new (lay (tree_p d) n)) u.6 (y.1 n (w.1 n i)));
}

-- ── primaries ──
pub grouped : {m : Mode} {s : List ℕ} {at nx a to : ℕ} {old new : List ℕ} → kind_l (toks_at m s at) ≡ Opens → Over m s at nx → Grown choice_p tree_c m s nx a old new → Over m s a to → Grown prim_p tree_q m s at to old new
unfolding tree_c
grouped {m} {s} {at} {nx} {a} {to} {old} {new} k o g x =
    let v = is-opens (toks_at m s at) k in
    let j = o.behind opens v.0 v.1 in
    record {
      low = omega (arith, o.low, g.low, x.low);
      high = x.high;
      forth = λ h. omega (arith, j.0, g.low, x.low);
      same = λ f e r h.
          let u = prim-open f v.0 e r (ap (λ (l : List Tok). prim_p f l) (sym v.1) ∙ h) in
          let w = g.same u.0 u.1 (closes ∷ r) (ap (λ (l : List Tok). choice_p u.0 l) j.1 ∙ u.2) in
          ((x.behind closes r w.0).1, λ n i. subst (λ (d : Primary). Rel new (lay (tree_q d) n)) u.3 (w.1 n i));
    }

module _ (m : Mode) (s : List ℕ) (at : ℕ) (k : Token) (e : k ≡ coded (token_at m s at)) where
  pub kind-here : k.kind ≡ kind_of (token_at m s at).is
  kind-here = ap (λ (x : Token). x.kind) e

  pub kind-there : k.kind ≡ kind_l (toks_at m s at)
  kind-there = kind-here ∙ kind-is m s at

  pub over-next : (k.kind ≡ End → ⊥) → Over m s at k.next
  over-next z = subst (λ (x : ℕ). Over m s at x) (sym (ap (λ (x : Token). x.next) e)) (next-over m s at (λ h. z (kind-here ∙ h)))

  pub over-end : k.kind ≡ End → at ≤ length s → Over m s at at
  over-end z b = end-over m s at (sym kind-here ∙ z) b

  pub long-next : (k.kind ≡ End → ⊥) → at < k.next
  long-next z = omega (arith, next-long m s at (λ h. z (kind-here ∙ h)), ap (λ (x : Token). x.next) e)

  pub start-in : (k.kind ≡ End → ⊥) → k.start < length s
  start-in z = omega (arith, start-within m s at (λ h. z (kind-here ∙ h)), ap (λ (x : Token). x.start) e)

  pub room : (k.kind ≡ End → ⊥) → symbolic k.kind ≡ true → k.start + k.size ≤ length s
  room z b = omega (arith, symbol-room m s at (λ h. z (kind-here ∙ h)) (sym (ap symbolic kind-here) ∙ b), ap (λ (x : Token). x.start) e, ap (λ (x : Token). x.size) e)

  pub no-token : k.kind ≡ End → toks_at m s at ≡ []
  no-token z = no-toks m s at (sym kind-here ∙ z)

  pub prim-end : {old : List ℕ} → k.kind ≡ End → at ≤ length s → Grown prim_p tree_q m s at at old old
  prim-end z b = record {
    low = omega arith;
    high = b;
    forth = λ h. absurd (h (no-token z));
    same = λ f q r h. absurd (prim-none f (toks_at m s at) q r (sym kind-there ∙ z) h);
  }

  pub prim-bad : {old : List ℕ} → NoPart k.kind → Grown prim_p tree_q m s at k.next old old
  prim-bad z = record {
    low = (over-next z.0).low;
    high = (over-next z.0).high;
    forth = λ h. long-next z.0;
    same = λ f q r h. absurd (prim-other f (toks_at m s at) q r (subst NoPart kind-there z) h);
  }

  pub prim-name : {old new : List ℕ} → (k.kind ≡ End → ⊥) → symbolic k.kind ≡ true → Occurs s k.kind k.start k.size old new → Grown prim_p tree_q m s at k.next old new
  unfolding tree_c
  prim-name {old} {new} z b o =
      let w = the-token m s at (λ h. z (kind-here ∙ h)) in
      let v = is-symbol w.0 (sym (ap symbolic (kind-here ∙ ap kind_of w.1)) ∙ b) in
      let here : (token_at m s at).is ≡ some (symbol v.0) = w.1 ∙ ap some v.1 in
      record {
        low = (over-next z).low;
        high = (over-next z).high;
        forth = λ h. long-next z;
        same = λ f q r h.
            let u = prim-symbol f v.0 (toks_at m s (token_at m s at).next) q r (ap (λ (l : List Tok). prim_p f l) (sym (toks_more m s at (symbol v.0) here)) ∙ h) in (
              ap (λ (x : Token). toks_at m s x.next) e ∙ u.1,
              λ n i. subst (λ (d : Primary). Rel new (lay (tree_q d) n)) u.0 (o.same m at v.0 here (sym kind-here) (sym (ap (λ (x : Token). x.start) e)) (sym (ap (λ (x : Token). x.size) e)) n i),
            );
      }

  pub prim-terminal : {old new : List ℕ} → (k.kind ≡ End → ⊥) → leafy k.kind ≡ true → Matches m s k.kind k.start k.size old new → Grown prim_p tree_q m s at k.next old new
  unfolding tree_c
  prim-terminal {old} {new} z b o =
      let w = the-token m s at (λ h. z (kind-here ∙ h)) in
      let v = is_leaf w.0 (sym (ap leafy (kind-here ∙ ap kind_of w.1)) ∙ b) in
      let here : (token_at m s at).is ≡ some (leaf v.0) = w.1 ∙ ap some v.1 in
      record {
        low = (over-next z).low;
        high = (over-next z).high;
        forth = λ h. long-next z;
        same = λ f q r h.
            let u = prim-leaf f v.0 (toks_at m s (token_at m s at).next) q r (ap (λ (l : List Tok). prim_p f l) (sym (toks_more m s at (leaf v.0) here)) ∙ h) in (
              ap (λ (x : Token). toks_at m s x.next) e ∙ u.1,
              λ n i. subst (λ (d : Primary). Rel new (lay (tree_q d) n)) u.0 (o.same at v.0 here (sym kind-here) (sym (ap (λ (x : Token). x.start) e)) (sym (ap (λ (x : Token). x.size) e)) n i),
            );
      }

-- ── what the kinds say that the code asks for ──
pub suffix-some : (p : ℕ) (k : Kind) → suffix_op k ≡ Some p → k ≡ End → ⊥
suffix-some p k e h = none-some (sym (ap suffix_op h) ∙ e)

pub prefix-some : (p : ℕ) (k : Kind) → prefix_op k ≡ Some p → k ≡ End → ⊥
prefix-some p k e h = none-some (sym (ap prefix_op h) ∙ e)

pub slash-some : (k : Kind) → k ≡ Slash → k ≡ End → ⊥
slash-some k e z = omega (arith, ap kind_number (sym e ∙ z))
