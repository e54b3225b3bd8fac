use native.Mathlib.Omega.{arith}
use native.Mathlib.Nat.{mul-le-mul}
use Prim.Native.Nat.{◌*◌, ◌≤◌}
use Rattle.match_rounds.specs.laws.Noted.{noted-none}
use Rattle.match_rounds.proofs.keep_block.Goals as goal

pub overflow_mul-p : goal.overflow_mul-p
overflow_mul-p c = let h : c.args.p * c.word-w.result ≤ 65535 * 4294967296 = mul-le-mul {n₂ = 65535} {m₂ = 4294967296}
    c.requires.2 (omega (arith, c.word-w.ensures.1)) in
    omega (arith, h)

pub returns-else-p-w-eq0 : goal.returns-else-p-w-eq0
returns-else-p-w-eq0 c = λ i q d. noted-none i q d c.args.mem.now
