-- Lemmas on blocks of addresses.
use Rattle.std.proofs.Common.{◌≡◌, ℕ, ◌+◌, ◌*◌, ◌-◌, ◌/◌, ◌%◌, ◌^◌, ◌<◌, ◌≤◌, ◌∙◌, ap, sym, arith}
use Rattle.std.proofs.Math.Nat.{mod-eq_of_lt, mod-add-div, div-lt_iff_lt-mul, mul-le-mul_left, mul-add, mul_comm, one-mul, mul-one}
use lib.Pow.{pow-add, pow-lt, pow_pos}

-- a block whose size goes into n ends below n
block_ends : (n address size count : ℕ) → 0 < size → size * count ≡ n → address < n → (address - address % size) + (size - 1) < n
block_ends n address size count positive fits below =
    let q = address / size in
    let parts : address % size + size * q ≡ address = mod-add-div address size in
    let within : q < count = (div-lt_iff_lt-mul positive).1 (omega (arith, mul_comm size count)) in
    let last : size * (q + 1) ≤ size * count = mul-le-mul_left size (omega arith) in
    omega (arith, mul-add size q 1, mul-one size)

-- the shift of 1 loses nothing
pub shifted : (k : ℕ) → k ≤ 32 → 1 * 2 ^ k % 2 ^ 64 ≡ 2 ^ k
shifted k small =
    ap (λ n. n % 2 ^ 64) (one-mul (2 ^ k)) ∙ mod-eq_of_lt (pow-lt {i = k} {j = 64} (omega arith))

-- a block of addresses lies below 2 ^ 32
pub block_below : (address length : ℕ) → address < 2 ^ 32 → length ≤ 32 → (address - address % 2 ^ (32 - length)) + (2 ^ (32 - length) - 1) < 2 ^ 32
block_below address length below small =
    let together : 32 - length + length ≡ 32 = omega arith in
    let whole : 2 ^ (32 - length) * 2 ^ length ≡ 2 ^ 32 = sym (pow-add 2 (32 - length) length) ∙ ap (λ k. 2 ^ k) together in
    block_ends (2 ^ 32) address (2 ^ (32 - length)) (2 ^ length) (pow_pos (32 - length)) whole below
