-- What a client asks of a subscription, and what the server allows (IEC 62541-4, "CreateSubscription").
use Rattle.std.specs.Prelude.{ℕ, ◌*◌, ◌==◌, ◌||◌, min, max, nat_lt, if◌then◌else◌}
use Rattle.ua_types.specs.Configuration.{Configuration}
use Rattle.ua_subscriptions.specs.declared.settings.Bounds.{Bounds}
use Rattle.ua_subscriptions.specs.declared.settings.Settings.{Settings}

abbrev pub bounds_of : Configuration → Bounds
bounds_of config = record {
  subscriptions = config.subscriptions;
  subscriptions_in_all = config.subscriptions_in_all;
  publish_queue = config.publish_queue;
  kept = config.kept;
  notifications = config.notifications;
  publish_time = config.publish_time;
}

abbrev pub no_settings : Settings
no_settings = record { keep_alive_count = 0; lifetime_count = 0; notifications = 0; priority = 0 }

-- a keep-alive count is from 2 to 65535
abbrev pub revised_keep_alive_count : ℕ → ℕ
revised_keep_alive_count asked = min (max asked 2) 65535

-- a lifetime count is from three times the keep-alive count to 196605
abbrev pub revised_lifetime_count : ℕ → ℕ → ℕ
revised_lifetime_count keep_alive asked = min (max asked (3 * keep_alive)) 196605

-- a message has at most as many notifications as the server allows, which is also what 0 asks for
abbrev pub revised_notifications : ℕ → ℕ → ℕ
revised_notifications most asked = if asked == 0 || nat_lt most asked then most else asked
