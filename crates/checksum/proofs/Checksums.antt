-- Laws of the check: of two byte strings joined, and of one changed byte.
use Rattle.std.proofs.Common.{◌≡◌, ℕ, zero, suc, ◌+◌, ◌-◌, ◌*◌, ◌/◌, ◌%◌, ◌^◌, ◌<◌, ◌≤◌, List, [], ◌∷◌, ◌++◌, length, get_or, take, drop, set, sym, refl, ap, ◌∙◌, mul_comm, pow-suc, add-one, arith, length-drop, take-append-drop, drop_of_length-le, take_all, drop-cons}
use native.Mathlib.Nat.{mod-add-mod, add-mod, mod-add-div', add-mul-mod_self_right}
use Rattle.checksum.specs.Checksum.{step, check_from, check_of}

-- the same sum without wrapping
sum_from : ℕ → List ℕ → ℕ
sum_from c [] = c
sum_from c (b ∷ bs) = sum_from (3 * c + b) bs

-- what differs by a multiple leaves the same rest
same_rest : (x y q m : ℕ) → x + q * m ≡ y → x % m ≡ y % m
same_rest x y q m e = sym (add-mul-mod_self_right x q m) ∙ ap (λ (k : ℕ). k % m) e

step_wraps : (c b : ℕ) → step (c % 2 ^ 32) b ≡ (3 * c + b) % 2 ^ 32
unfolding step
step_wraps c b = same_rest (3 * (c % 2 ^ 32) + b) (3 * c + b) (3 * (c / 2 ^ 32)) (2 ^ 32) (omega arith)

check_wraps : (c : ℕ) (bs : List ℕ) → check_from (c % 2 ^ 32) bs ≡ sum_from c bs % 2 ^ 32
unfolding check_from sum_from
check_wraps c [] = refl
check_wraps c (b ∷ bs) = ap (λ (k : ℕ). check_from k bs) (step_wraps c b) ∙ check_wraps (3 * c + b) bs

check_sum : (bs : List ℕ) → check_of bs ≡ sum_from 0 bs % 2 ^ 32
unfolding check_of
check_sum bs = check_wraps 0 bs

sum_joined : (c : ℕ) (a b : List ℕ) → sum_from c (a ++ b) ≡ sum_from (sum_from c a) b
unfolding sum_from
sum_joined c [] b = refl
sum_joined c (x ∷ a) b = sum_joined (3 * c + x) a b

sum_step : (c x p y : ℕ) → (3 * c + x) * p + y ≡ c * (p * 3) + ((3 * 0 + x) * p + y)
sum_step c x p y = omega arith

sum_from_law : (c : ℕ) (b : List ℕ) → sum_from c b ≡ c * 3 ^ length b + sum_from 0 b
unfolding sum_from
sum_from_law c [] = omega arith
sum_from_law c (x ∷ b) =
    sum_from_law (3 * c + x) b ∙ sum_step c x (3 ^ length b) (sum_from 0 b) ∙ rw (pow-suc 3 (length b), ← (sum_from_law (3 * 0 + x) b))

-- a factor may wrap first
factor_wraps : (a p m : ℕ) → (a % m * p) % m ≡ (a * p) % m
factor_wraps a p m =
    same_rest (a % m * p) (a * p) (a / m * p) m (omega (arith, ap (λ (k : ℕ). k * p) (mod-add-div' a m)))

-- two strings joined
pub joined : (a b : List ℕ) → check_of (a ++ b) ≡ (check_of a * 3 ^ length b + check_of b) % 2 ^ 32
joined a b =
    check_sum (a ++ b) ∙ ap (λ (k : ℕ). k % 2 ^ 32) (sum_joined 0 a b ∙ sum_from_law (sum_from 0 a) b)
    ∙ add-mod (sum_from 0 a * 3 ^ length b) (sum_from 0 b) (2 ^ 32)
    ∙ ap (λ (k : ℕ). (k + sum_from 0 b % 2 ^ 32) % 2 ^ 32) (sym (factor_wraps (sum_from 0 a) (3 ^ length b) (2 ^ 32)))
    ∙ mod-add-mod (sum_from 0 a % 2 ^ 32 * 3 ^ length b) (2 ^ 32) (sum_from 0 b % 2 ^ 32)
    ∙ rw (check_sum a, check_sum b)

-- a byte more keeps two checks apart, as 3 * 2863311531 is 2 * 2 ^ 32 + 1; and two bytes keep one check apart
step_check : (c d b : ℕ) → c < 2 ^ 32 → d < 2 ^ 32 → step c b ≡ step d b → c ≡ d
unfolding step
step_check c d b l m e =
    let q = (3 * c + b) / 2 ^ 32 in
    let p = (3 * d + b) / 2 ^ 32 in
    let i = 2 * c + 2863311531 * p in
    let j = 2 * d + 2863311531 * q in
    let f = same_rest c (c + i * 2 ^ 32) i (2 ^ 32) refl in
    let g = same_rest d (c + i * 2 ^ 32) j (2 ^ 32) (omega arith) in
    omega arith

step_byte : (c x y : ℕ) → x < 2 ^ 32 → y < 2 ^ 32 → step c x ≡ step c y → x ≡ y
unfolding step
step_byte c x y l m e = omega arith

pub step_below : (c b : ℕ) → step c b < 2 ^ 32
unfolding step
step_below c b = omega arith

-- and so does every string
from_check : (c d : ℕ) (bs : List ℕ) → c < 2 ^ 32 → d < 2 ^ 32 → check_from c bs ≡ check_from d bs → c ≡ d
unfolding check_from
from_check c d [] l m e = e
from_check c d (b ∷ bs) l m e =
    step_check c d b l m (from_check (step c b) (step d b) bs (step_below c b) (step_below d b) e)

-- a string with one byte changed has another check
changed_from : (c : ℕ) (bs : List ℕ) (i x : ℕ) → i < length bs → x < 2 ^ 32 → get_or bs i 0 < 2 ^ 32
    → check_from c (set bs i x) ≡ check_from c bs → x ≡ get_or bs i 0
unfolding check_from
changed_from c [] i x h l m e = absurd (omega arith)
changed_from c (b ∷ bs) zero x h l m e =
    step_byte c x b l m (from_check (step c x) (step c b) bs (step_below c x) (step_below c b) e)
changed_from c (b ∷ bs) (suc i) x h l m e = changed_from (step c b) bs i x (omega arith) l m e

pub changed : (bs : List ℕ) (i x : ℕ) → i < length bs → x < 2 ^ 32 → get_or bs i 0 < 2 ^ 32 → check_of (set bs i x) ≡ check_of bs → x ≡ get_or bs i 0
unfolding check_of
changed bs i x h l m e = changed_from 0 bs i x h l m e

from_below : (c : ℕ) (bs : List ℕ) → c < 2 ^ 32 → check_from c bs < 2 ^ 32
unfolding check_from
from_below c [] l = l
from_below c (b ∷ bs) l = from_below (step c b) bs (step_below c b)

pub check_below : (bs : List ℕ) → check_of bs < 2 ^ 32
unfolding check_of
check_below bs = from_below 0 bs (omega arith)

-- as the code adds it up
pub more_is : (c b : ℕ) → (c * 3 % 2 ^ 32 + b) % 2 ^ 32 ≡ step c b
unfolding step
more_is c b = mod-add-mod (c * 3) (2 ^ 32) b ∙ ap (λ (k : ℕ). (k + b) % 2 ^ 32) (mul_comm c 3)

pub join_is : (a p b : ℕ) → (a * p % 2 ^ 32 + b) % 2 ^ 32 ≡ (a * p + b) % 2 ^ 32
join_is a p b = mod-add-mod (a * p) (2 ^ 32) b

-- while a string is checked, from the check c on: what is left decides
pub record Checking (c : ℕ) (s : List ℕ) (sum i : ℕ) : Type 0 where
  pub within : i ≤ length s
  pub left : check_from c s ≡ check_from sum (drop i s)

pub check_began : (c : ℕ) (s : List ℕ) → Checking c s c 0
check_began c s = record { within = omega arith; left = refl }

module _ {c : ℕ} {s : List ℕ} {sum i : ℕ} (h : Checking c s sum i) where
  pub check_turn : {r : ℕ} → i < length s → r ≡ step sum (get_or s i 0) → Checking c s r (i + 1)
  unfolding check_from
  check_turn l e = record { within = omega arith; left = h.left ∙ rw (drop-cons s i 0 l, add-one, e) }

  pub check_ended : length s ≤ i → sum ≡ check_from c s
  unfolding check_from
  check_ended l = sym (h.left ∙ rw (drop_of_length-le s l))

-- bytes after those that were checked
from_joined : (c : ℕ) (a b : List ℕ) → check_from c (a ++ b) ≡ check_from (check_from c a) b
unfolding check_from
from_joined c [] b = refl
from_joined c (x ∷ a) b = from_joined (step c x) a b

pub rest_checked : (s : List ℕ) (k : ℕ) {f r : ℕ} → f ≡ check_of (take k s) → r ≡ check_from f (take (length s - k) (drop k s)) → r ≡ check_of s
unfolding check_of
rest_checked s k {f} e g =
    g ∙ ap (check_from f) (take_all (length s - k) (drop k s) (omega (arith, length-drop k s)))
    ∙ ap (λ (x : ℕ). check_from x (drop k s)) e ∙ sym (from_joined 0 (take k s) (drop k s)) ∙ ap (check_from 0) (take-append-drop k s)

-- 3 to a number, wrapping, and to the next
pub power_turn : (i : ℕ) {p r : ℕ} → p ≡ 3 ^ i % 2 ^ 32 → r ≡ step p 0 → r ≡ 3 ^ (i + 1) % 2 ^ 32
power_turn i e f =
    let m : 3 * 3 ^ i + 0 ≡ 3 ^ i * 3 = omega arith in
    f ∙ ap (λ (k : ℕ). step k 0) e ∙ step_wraps (3 ^ i) 0 ∙ ap (λ (k : ℕ). k % 2 ^ 32) (m ∙ sym (pow-suc 3 i) ∙ ap (λ (k : ℕ). 3 ^ k) (sym (add-one i)))

-- a factor on the right may wrap first
pub power_wraps : (a b q : ℕ) {p r : ℕ} → p ≡ q % 2 ^ 32 → r ≡ (a * p + b) % 2 ^ 32 → r ≡ (a * q + b) % 2 ^ 32
power_wraps a b q e f =
    f ∙ ap (λ (k : ℕ). (a * k + b) % 2 ^ 32) e ∙ sym (mod-add-mod (a * (q % 2 ^ 32)) (2 ^ 32) b)
    ∙ ap (λ (k : ℕ). (k + b) % 2 ^ 32) wraps ∙ mod-add-mod (a * q) (2 ^ 32) b
  where
    wraps : (a * (q % 2 ^ 32)) % 2 ^ 32 ≡ (a * q) % 2 ^ 32
    wraps =
        ap (λ (k : ℕ). k % 2 ^ 32) (mul_comm a (q % 2 ^ 32)) ∙ factor_wraps q a (2 ^ 32)
        ∙ ap (λ (k : ℕ). k % 2 ^ 32) (mul_comm q a)
