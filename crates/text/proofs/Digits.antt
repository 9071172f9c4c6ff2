-- The decimal digits that std writes are those of the model.
use Rattle.std.proofs.Common.{◌≡◌, ℕ, ◌<◌, ◌≤◌, length, sym, subst, rules, arith}
use Rattle.std.specs.Fmt.{decimal}
use Rattle.std.proofs.lemmas.Fmt.{AppendsLastDigit, decimal_from_appends, length-decimal-le}
use Rattle.model.specs.Listing.{digits_up_to, decimal as model_decimal}

last_digit_last : AppendsLastDigit digits_up_to
last_digit_last = search rules

pub few_digits : (n : ℕ) → n < 10000000000 → length (decimal n) ≤ 10
few_digits n h = length-decimal-le 10 n (omega arith) (omega arith) (omega arith)

pub decimal_is : (n : ℕ) → n < 10000000000 → decimal n ≡ model_decimal n
unfolding model_decimal
decimal_is n h = sym (decimal_from_appends digits_up_to last_digit_last 10 n (omega arith) (few_digits n h))

-- ten at most
pub decimal_short : (n : ℕ) → n < 10000000000 → length (model_decimal n) ≤ 10
decimal_short n h = subst (λ ds. length ds ≤ 10) (decimal_is n h) (few_digits n h)
