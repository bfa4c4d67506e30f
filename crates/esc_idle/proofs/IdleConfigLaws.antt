-- The boards' settings are valid, as the Rust asserts of its constant.
use Rattle.std.proofs.Common.{◌≡◌, true, refl}
use Rattle.esc_idle.specs.IdleConfig.{valid_settings, dshot_settings}

pub dshot-valid : valid_settings dshot_settings ≡ true
unfolding valid_settings
dshot-valid = refl
