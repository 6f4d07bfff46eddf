-- The rules of user agents by their flags, and the numbers of what becomes of a line behind them (own:
-- docs/DEFINITIONS.md). The rules are those of `user_agent`.
use Rattle.std.specs.Prelude.{ℕ, ℤ, pos, ◌≡◌, ◌<◌, ◌/◌, ◌%◌, ◌==◌, Bool}
use Rattle.user_agent.specs.declared.cross_answer.OutcomeFor.{OutcomeFor}
use Rattle.user_agent.specs.declared.cross_answer.OutcomeFor.TheVariants.{Judged, KeptOut}
use Rattle.user_agent.specs.declared.cross_answer.SiteRefusal.{SiteRefusal}
use Rattle.user_agent.specs.declared.cross_answer.SiteRefusal.TheVariants.{CrossSite, NoneLacksSecure}
use Rattle.user_agent.specs.declared.rules.Outcome.{Outcome}
use Rattle.user_agent.specs.declared.rules.Outcome.TheVariants.{Taken, Refused}
use Rattle.user_agent.specs.declared.rules.Refusal.{Refusal}
use Rattle.user_agent.specs.declared.rules.Refusal.TheVariants.{Control, TooLong, SecurePrefix, HostPrefix}
use Rattle.user_agent.specs.declared.rules.Refusal.TheVariants.{SecureFromHttp, SecureOverlay, LacksSecure}
use Rattle.user_agent.specs.declared.rules.Rules.{Rules}
use Rattle.fonnalich_c.specs.Numbers.{end_number}

-- ---- flags

-- a flag, which is a power of two, is set in a number
abbrev pub is_set : ℕ → ℕ → Bool
is_set flag flags = (flags / flag) % 2 == 1

-- each rule is on whose flag is set: those that refuse, in their order, those that rewrite, that Secure rows win, and
-- that a cookie is Lax by default and one of SameSite=None has to be Secure
abbrev pub ruled : ℕ → Rules
ruled flags = record {
  control = flags % 2 == 1;
  too_long = is_set 2 flags;
  secure_prefix = is_set 4 flags;
  host_prefix = is_set 8 flags;
  secure_from_http = is_set 16 flags;
  secure_overlay = is_set 32 flags;
  long_attributes = is_set 64 flags;
  dates = is_set 128 flags;
  long_lives = is_set 256 flags;
  secure_wins = is_set 512 flags;
  lax_by_default = is_set 1024 flags;
  none_needs_secure = is_set 2048 flags;
}

-- the rules of a number of twelve flags
abbrev pub IsFlags : ℤ → Rules → Type 0
IsFlags number rules = (flags : ℕ) × (number ≡ pos flags) × (flags < 4096) × (rules ≡ ruled flags)

abbrev pub IsNoFlags : ℤ → Type 0
IsNoFlags number = (flags : ℕ) → flags < 4096 → ¬ (number ≡ pos flags)

-- ---- what becomes of a line

abbrev pub rule_number : Refusal → ℕ
rule_number Control = 20
rule_number TooLong = 21
rule_number SecurePrefix = 22
rule_number HostPrefix = 23
rule_number SecureFromHttp = 24
rule_number SecureOverlay = 25
rule_number LacksSecure = 26

abbrev pub outcome_number : Outcome → ℕ
outcome_number (Taken end) = end_number end
outcome_number (Refused rule) = rule_number rule

abbrev pub site_refusal_number : SiteRefusal → ℕ
site_refusal_number CrossSite = 27
site_refusal_number NoneLacksSecure = 28

-- where it is said what started the request
abbrev pub outcome_for_number : OutcomeFor → ℕ
outcome_for_number (Judged outcome) = outcome_number outcome
outcome_for_number (KeptOut cause) = site_refusal_number cause
