-- The list of a request that asks for several things.
use Rattle.std.specs.Prelude.{ℕ, ◌==◌, nat_lt, List, length, Option, Some, None, Result, Ok, Err, if◌then◌else◌}
use Rattle.std.specs.Result.{result_map_both}
use Rattle.ua_types.specs.Configuration.{Configuration}
use Rattle.ua_types.specs.declared.status.Status.{Status}
use Rattle.ua_types.specs.declared.status.TheConstants.Status as status

-- so many things are asked for: at least one, and no more than the configuration allows
abbrev pub count_judged : Configuration → ℕ → Result (Unit {0}) Status
count_judged config count =
    if count == 0 then Err status.BAD_NOTHING_TO_DO
    else if nat_lt config.operations count then Err status.BAD_TOO_MANY_OPERATIONS
    else Ok tt

abbrev pub operations_in : {A : Type 0} → Configuration → List A → Result (List A) Status
operations_in config xs = result_map_both (λ good. xs) (λ code. code) (count_judged config (length xs))

-- what is asked for, or why it is too little or too much
abbrev pub operations_of : {A : Type 0} → Configuration → Option (List A) → Result (List A) Status
operations_of config None = Err status.BAD_NOTHING_TO_DO
operations_of config (Some xs) = operations_in config xs
