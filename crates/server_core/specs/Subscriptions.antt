-- What a server shows of its subscriptions, and how many there are.
use Rattle.std.specs.Prelude.{ℕ, List, [], length, Option, Some, None, option_map}
use Rattle.std.specs.FinMap.{len}
use Rattle.ua_state_table.specs.declared.vars.Vars.{Vars}
use Rattle.ua_subscriptions.specs.Making.{kept_at}
use Rattle.ua_subscriptions.specs.Tables.{vars_found, kept_found}
use Rattle.ua_session.specs.Sessions.{SessionsState}
use Rattle.server_core.specs.declared.population.Population.{Population}
use Rattle.server_core.specs.World.{World}

-- the variables of the subscription of a number; a halted server shows none
abbrev pub vars_on : Option World → ℕ → Option Vars
vars_on None number = None
vars_on (Some world) number = vars_found number world.core.services.items world.core.services.subscriptions.table

-- the numbers of the messages that it keeps, in the order in which they were sent
abbrev pub kept_numbers_on : Option World → ℕ → List ℕ
kept_numbers_on None number = []
kept_numbers_on (Some world) number = kept_found number world.core.services.subscriptions.table

-- the message with a number that it keeps, as it was first sent; of two, the older
abbrev pub kept_on : Option World → ℕ → ℕ → Option (List ℕ)
kept_on None number wanted = None
kept_on (Some world) number wanted = kept_at number wanted world.core.services.subscriptions.table

-- how many sessions, subscriptions and items there are
abbrev pub population_of : World → Population
population_of world =
    let sessions : SessionsState = world.core.services.sessions in
    record { sessions = len sessions.sessions; subscriptions = length world.core.services.subscriptions.table.subscriptions; items = length world.core.services.items.items }

abbrev pub population_on : Option World → Option Population
population_on world = option_map population_of world
