-- A match on a table, from what its parts answer. Assumes nothing.
use Rattle.std.specs.Prelude.{ℕ, suc, ◌+◌, ◌-◌, ◌*◌, ◌≤◌, ◌<◌, ◌≡◌, refl, Bool, true, false, List, length, get_or, ltb, Result, Ok, Err}
use Rattle.std.proofs.Common.{sym, ◌∙◌, subst, arith, mul_comm, mul-le-mul_right, lt-ltb, le-ltb}
use Rattle.std.proofs.Math.Path.{ap, ap₂}
use Rattle.std.proofs.Math.Option.{Option, none, some}
use Rattle.read_tokens.specs.Bounds.{input_bound}
use Rattle.grammar.specs.Exp.{Exp}
use Rattle.grammar.specs.Numbers.{Grammar}
use Rattle.grammar.specs.Refusal.{Refusal, refusal, refuse_if, ◌▸◌}
use Rattle.grammar_table.specs.Table.{symbol_count}
use Rattle.grammar_table.specs.Trees.{bodies_of}
use Rattle.lake_step_one.specs.steps.Made.{with_bodies}
use Rattle.lake_calls.specs.laws.Trees.{bodies-are}
use Rattle.match_list.specs.Nodes.{list_of, listing_of, words_of, room_of}
use Rattle.match_cells.specs.laws.Agrees.{Right}
use Rattle.match_cells.specs.steps.Runs.{Plain, Fills}
use Rattle.match_cells.specs.laws.Runs.{bodies_of_lem, cells_right}
use Rattle.match_nodes.specs.declared.Offence.{Offence}
use Rattle.match_nodes.specs.declared.Offence.TheVariants.{Deep, Full}
use Rattle.match_nodes.specs.steps.Passes.{said}
use Rattle.match_nodes.specs.steps.Turns.{Ready}
use Rattle.match_nodes.specs.laws.Forests.{body-in, forest-of}
use Rattle.prepare.specs.declared.Verdict.TheVariants.{Refused as VerdictRefused}
use Rattle.match_run.specs.declared.Match.{Match}
use Rattle.match_run.specs.declared.Outcome.TheVariants.{NoMatch}
use Rattle.match_run.specs.steps.Runs.{Loopless, outcome, listed_match, not_matched, Lent, lent, needed, refuses_room, filled_by, listed_by, ran_by, ran_after, Ran}

-- ── the numbers ──
pub need-small : (n l : ℕ) → n ≤ 64 → l ≤ 65535 → n * (l + 1) ≤ 4194304
need-small n l h k = let a : n * (l + 1) ≤ 64 * (l + 1) = mul-le-mul_right {m = n} {n = 64} (l + 1) h in omega (arith, a, k)

-- ── 9 and 10 ──
module _ (t s cs : List ℕ) (n : ℕ) (q : n ≡ symbol_count t) (g : Grammar) (bodies : List (Exp ℕ)) (pl : Plain t g bodies) where
  need-is : n * (length s + 1) ≡ needed bodies s
  need-is = ap (λ (k : ℕ). k * (length s + 1)) (q ∙ bodies-are t g bodies pl.holds)

  pub input-long : 65535 < length s → refuses_room bodies s cs ≡ some (refusal 9 65535)
  unfolding input_bound
  input-long h = ap (λ (b : Bool). refuse_if b 9 65535 ▸ refuse_if (ltb (length cs) (needed bodies s)) 10 (needed bodies s)) (lt-ltb 65535 (length s) h)

  module _ (short : length s ≤ 65535) where
    by-cells : (b : Bool) → ltb (length cs) (needed bodies s) ≡ b → refuses_room bodies s cs ≡ refuse_if b 10 (needed bodies s)
    unfolding input_bound
    by-cells b h = ap₂ (λ (x y : Bool). refuse_if x 9 65535 ▸ refuse_if y 10 (needed bodies s)) (le-ltb 65535 (length s) short) h

    pub input-few : (need : ℕ) → need ≡ n * (length s + 1) → length cs < need → refuses_room bodies s cs ≡ some (refusal 10 need)
    input-few need e h = by-cells true (lt-ltb (length cs) (needed bodies s) (omega (arith, h, e, need-is))) ∙ ap (λ (k : ℕ). some (refusal 10 k)) (sym (e ∙ need-is))

    pub enough : n * (length s + 1) ≤ length cs → refuses_room bodies s cs ≡ none
    enough h = by-cells false (le-ltb (length cs) (needed bodies s) (omega (arith, h, need-is)))

-- ── the list ──
listing-said : (taken : ℕ) (l : Result ℕ Offence) → listed_by taken (said l) ≡ listed_match taken l
unfolding said
listing-said taken (Ok k) = refl
listing-said taken (Err (Deep k)) = refl
listing-said taken (Err (Full k)) = refl

module _ (s cs ws : List ℕ) (bodies : List (Exp ℕ)) (new : List ℕ) (e : new ≡ filled_by bodies s cs) (c : ℕ) (f : c ≡ get_or new 0 0) where
  by-cell : ran_by c bodies s new ws ≡ ran_after none bodies s cs ws
  by-cell = ap₂ (λ (k : ℕ) (x : List ℕ). ran_by k bodies s x ws) (f ∙ ap (λ (l : List ℕ). get_or l 0 0) e) e

  unmatched : c ≡ 0 → lent (outcome 0 NoMatch) new ws ≡ ran_after none bodies s cs ws
  unmatched z = ap (λ (k : ℕ). ran_by k bodies s new ws) (sym z) ∙ by-cell

  matched : (k : ℕ) → c ≡ suc k → (l : Result ℕ Offence) (words : List ℕ) → said l ≡ listing_of (room_of ws) 0 (list_of bodies s new) → words ≡ words_of (room_of ws) ws (list_of bodies s new)
      → lent (listed_match k l) new words ≡ ran_after none bodies s cs ws
  matched k z l words a b =
      ap₂ (λ (r : Match) (w : List ℕ). lent r new w) (sym (listing-said k l) ∙ ap (listed_by k) a) b
      ∙ ap (λ (j : ℕ). ran_by j bodies s new ws) (sym z)
      ∙ by-cell

-- ── as the code has it ──
module _ (t s cs ws : List ℕ) where
  -- by the check that refuses, or by none
  by-check : (bodies : List (Exp ℕ)) {o : Option Refusal} {x : Lent} → refuses_room bodies s cs ≡ o → x ≡ ran_after o bodies s cs ws → x ≡ ran_after (refuses_room bodies s cs) bodies s cs ws
  by-check bodies e q = q ∙ ap (λ (o : Option Refusal). ran_after o bodies s cs ws) (sym e)

  pub ran-long : {r : Match} → r ≡ not_matched (VerdictRefused 9 65535) → 65535 < length s → Ran t s cs ws cs ws r
  ran-long e h = record { are = λ g bodies pl clear. by-check bodies (input-long t s cs (symbol_count t) refl g bodies pl h) (ap (λ (r : Match). lent r cs ws) e) }

  module _ (n need : ℕ) (q : n ≡ symbol_count t) (short : length s ≤ 65535) (m : need ≡ n * (length s + 1)) where
    pub ran-few : {r : Match} → r ≡ not_matched (VerdictRefused 10 need) → length cs < need → Ran t s cs ws cs ws r
    ran-few e h = record { are = λ g bodies pl clear. by-check bodies (input-few t s cs n q g bodies pl short need m h) (ap (λ (r : Match). lent r cs ws) e) }

    module _ (room : need ≤ length cs) (new : List ℕ) (fills : Fills t s cs new) where
      clear-input : (g : Grammar) (bodies : List (Exp ℕ)) → Plain t g bodies → refuses_room bodies s cs ≡ none
      clear-input g bodies pl = enough t s cs n q g bodies pl short (omega (arith, room, m))

      pub ran-none : (c : ℕ) → c ≡ get_or new 0 0 → c ≡ 0 → Ran t s cs ws new ws (outcome 0 NoMatch)
      ran-none c f z = record { are = λ g bodies pl clear. by-check bodies (clear-input g bodies pl) (unmatched s cs ws bodies new (fills.are g bodies pl clear) c f z) }

      pub ready : Loopless t → Ready t s new n
      ready l = record {
        count = q;
        few = omega (arith, q, l.plain.holds.few-symbols);
        short = short;
        right =
            subst (λ (bs : List (Exp ℕ)). Right bs s new) (sym (bodies_of_lem t l.grammar l.bodies l.plain))
            (subst (λ (x : List ℕ). Right l.bodies s x) (sym (fills.are l.grammar l.bodies l.plain l.clear))
            (cells_right t l.grammar l.bodies l.plain l.clear s cs (rooms (length l.bodies) (q ∙ bodies-are t l.grammar l.bodies l.plain.holds))));
        small = λ r k. body-in t (with_bodies l.grammar l.bodies) l.plain.holds r (omega (arith, k, q));
        fits = l.plain.holds.few-expressions;
        forest = forest-of t (with_bodies l.grammar l.bodies) l.plain.holds;
      }
        where
          rooms : (k : ℕ) → n ≡ k → (length s + 1) * k ≤ length cs
          rooms k e = let a : (length s + 1) * k ≡ k * (length s + 1) = mul_comm (length s + 1) k in let b : n * (length s + 1) ≡ k * (length s + 1) = ap (λ (j : ℕ). j * (length s + 1)) e in omega (arith, a, b, room, m)

      pub ran-all : (c : ℕ) → c ≡ get_or new 0 0 → (c ≡ 0 → ⊥) → (l : Result ℕ Offence) (words : List ℕ) (r : Match) → said l ≡ listing_of (room_of ws) 0 (list_of (bodies_of t) s new)
          → words ≡ words_of (room_of ws) ws (list_of (bodies_of t) s new) → r ≡ listed_match (c - 1) l → Ran t s cs ws new words r
      ran-all c f z l words r a b e = record {
        are =
            λ g bodies pl clear.
            let d : bodies_of t ≡ bodies = bodies_of_lem t g bodies pl in
            by-check bodies (clear-input g bodies pl)
            (ap (λ (x : Match). lent x new words) e
            ∙ matched s cs ws bodies new (fills.are g bodies pl clear) c f (c - 1) (omega (arith, z)) l words
            (a ∙ ap (λ (bs : List (Exp ℕ)). listing_of (room_of ws) 0 (list_of bs s new)) d)
            (b ∙ ap (λ (bs : List (Exp ℕ)). words_of (room_of ws) ws (list_of bs s new)) d));
      }
