use native.Mathlib.Omega.{arith}
use Rattle.key.proofs.Headers.{within, not_within}
use Rattle.key.proofs.header.is_formed.Goals as goal

pub returns-then-version-lt1 : goal.returns-then-version-lt1
returns-then-version-lt1 c = not_within (λ h. omega (arith, h))

pub returns-then-version-gt2000 : goal.returns-then-version-gt2000
returns-then-version-gt2000 c = not_within (λ h. omega (arith, h))

pub returns-then-objlen-gt2147483647 : goal.returns-then-objlen-gt2147483647
returns-then-objlen-gt2147483647 c = not_within (λ h. omega (arith, h))

pub returns-then-nbytes-gt2147483647 : goal.returns-then-nbytes-gt2147483647
returns-then-nbytes-gt2147483647 c = not_within (λ h. omega (arith, h))

pub returns-then-nbytes-keylen : goal.returns-then-nbytes-keylen
returns-then-nbytes-keylen c = not_within (λ h. omega (arith, h))

pub returns-then-keylen-sum : goal.returns-then-keylen-sum
returns-then-keylen-sum c = not_within (λ h. omega (arith, h))

pub returns-then-keylen-gt-MOST_KEYLEN : goal.returns-then-keylen-gt-MOST_KEYLEN
returns-then-keylen-gt-MOST_KEYLEN c = not_within (λ h. omega (arith, h))

pub returns : goal.returns
returns c = within (omega arith)
