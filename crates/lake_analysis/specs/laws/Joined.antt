-- The steps of the analysis, put together. Assumes nothing.
use Rattle.std.specs.Prelude.{ℕ, ◌-◌, ◌≤◌, ◌<◌, ◌≡◌, Bool, true, false, List, length, get_or}
use Rattle.std.proofs.Common.{sym, ap, ap₂, ◌∙◌, subst, get_or-take, arith}
use Rattle.base_words.specs.Set.{empty}
use Rattle.grammar_table.specs.Table.{expression_count}
use Rattle.lake_sets.specs.steps.Steps.{Tame, succeed_given, alt_given, handed}
use Rattle.lake_rules.specs.laws.Reached.{Flowed}
use Rattle.lake_sets.specs.laws.Told.{told, tame}
use Rattle.lake_step_one.specs.Proper.{middle}
use Rattle.lake_step_one.proofs.laws.Held.{names-are}
use Rattle.lake_analysis.specs.steps.Lent.{Begins, Parted, SetsOf}
use Rattle.lake_sets.specs.declared.Sets.{Sets}
use Rattle.lake_rules.specs.Beginning.{Beginning, begin, nothing}
use Rattle.lake_sets.specs.SetsAt.{sets_at}

-- n, m, l: the lengths that the three steps were asked with
pub joined : (t : List ℕ) (n m l r : ℕ) (ms : List Bool) (sets : List (List ℕ)) (eps : List Bool) (succ alts : List (List ℕ)) (j k : ℕ) → m ≡ n → l ≡ n
    → Begins t m r ms sets eps → Flowed n (succeed_given t sets n) (handed t eps true n n) j succ → Flowed l (alt_given t sets eps succ l) (handed t eps false l l) k alts
    → Parted t n r ms sets eps succ alts k
joined t n m l r ms sets eps succ alts j k em el b s a g h p en er =
    let N = expression_count t in
    let R = length g.names in
    let e_r : r ≡ R = er ∙ names-are t (middle g) h in
    let tm : Tame t N R (length g.terminals) = tame t g h p in
    let b' : Begins t N R ms sets eps = subst (λ (y : ℕ). Begins t N y ms sets eps) e_r (subst (λ (y : ℕ). Begins t y r ms sets eps) (em ∙ en) b) in
    told t g h p ms sets eps succ alts j k (b'.marks (length g.terminals) tm) (b'.begins R (length g.terminals) tm)
    (subst (λ (y : ℕ). Flowed y (succeed_given t sets y) (handed t eps true y y) j succ) en s)
    (subst (λ (y : ℕ). Flowed y (alt_given t sets eps succ y) (handed t eps false y y) k alts) (el ∙ en) a)

-- said of other runs that are the same
pub parted-as : (t : List ℕ) (n n' r r' k : ℕ) (ms ms' : List Bool) (a a' : List (List ℕ)) (e e' : List Bool) (b b' c c' : List (List ℕ)) → n' ≡ n → r' ≡ r → ms ≡ ms' → a ≡ a' → e ≡ e' → b ≡ b' → c ≡ c'
    → Parted t n' r' ms a e b c k → Parted t n r ms' a' e' b' c' k
parted-as t n n' r r' k ms ms' a a' e e' b b' c c' hn hr hm ha he hb hc p =
    subst (λ (y : List (List ℕ)). Parted t n r ms' a' e' b' y k) hc
    (subst (λ (y : List (List ℕ)). Parted t n r ms' a' e' y c k) hb
    (subst (λ (y : List Bool). Parted t n r ms' a' y b c k) he
    (subst (λ (y : List (List ℕ)). Parted t n r ms' y e b c k) ha
    (subst (λ (y : List Bool). Parted t n r y a e b c k) hm
    (subst (λ (y : ℕ). Parted t n y ms a e b c k) hr
    (subst (λ (y : ℕ). Parted t y r' ms a e b c k) hn p))))))

-- the sets of one expression
pub sets_of : (sets : List (List ℕ)) (eps : List Bool) (succ alts : List (List ℕ)) (e : ℕ) (r : Sets) → 1 ≤ e
    → r.begin ≡ get_or sets (e - 1) empty → r.eps ≡ get_or eps (e - 1) false → r.succeed ≡ get_or succ (e - 1) empty → r.alt ≡ get_or alts (e - 1) empty → SetsOf sets eps succ alts e r
unfolding sets_at
sets_of sets eps succ alts e r l hb he hs ha a n m k ms p h =
    let i = e - 1 in
    let q : i < n = omega arith in
    let z : begin (get_or sets i empty) (get_or eps i false) ≡ get_or a.begins i nothing
    = ap₂ begin (sym (get_or-take n sets i empty q)) (sym (get_or-take n eps i false q)) ∙ h.begins-is i in
    made (hb ∙ ap (λ (y : Beginning). y.set) z) (hs ∙ sym (get_or-take n succ i empty q) ∙ ap (λ (y : List (List ℕ)). get_or y i empty) h.succeeds-is)
    (ha ∙ sym (get_or-take n alts i empty q) ∙ ap (λ (y : List (List ℕ)). get_or y i empty) h.alts-is) (he ∙ ap (λ (y : Beginning). y.eps) z)
  where
    make : List ℕ → List ℕ → List ℕ → Bool → Sets
    make b s c x = record { begin = b; succeed = s; alt = c; eps = x }

    made : {b s c : List ℕ} {x : Bool} → r.begin ≡ b → r.succeed ≡ s → r.alt ≡ c → r.eps ≡ x → r ≡ make b s c x
    made {b} {s} {c} {x} p q u v =
        ap (λ (y : List ℕ). make y r.succeed r.alt r.eps) p
        ∙ ap (λ (y : List ℕ). make b y r.alt r.eps) q
        ∙ ap (λ (y : List ℕ). make b s y r.eps) u
        ∙ ap (λ (y : Bool). make b s c y) v
