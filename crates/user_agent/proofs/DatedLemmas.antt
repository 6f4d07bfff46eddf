-- A date in the first of the strict forms is read as what it says.
use Rattle.std.proofs.Common.{◌≤◌, refl, codes, arith}
use lib.Utf8.{encode}
use Rattle.std.specs.Str.{trim_start, trim_end, chars}
use Rattle.jiff.specs.Types.{DateTime}
use Rattle.cookie_text.specs.Attribute.{Expires, Gives}
use Rattle.cookie_text.specs.Date.{IsMoment}
use Rattle.cookie_text.specs.Pieces.{name_of}
use Rattle.cookie_text.specs.Printing.{date_text}
use Rattle.cookie_text.proofs.PrintedDates.{printed_date, printed_quiet, quiet_is_clean, quiet_join, stamp}
use Rattle.cookie_text.proofs.PrintedDates.{trim-printed}
use Rattle.cookie_text.proofs.PrintedPieces.{value_cut}
use Rattle.user_agent.specs.Dates.{Date, IsMomentOf}
use Rattle.user_agent.specs.KnownDates.{dated_piece}
use Rattle.user_agent.proofs.PieceLemmas.{IsClean}

module _ (d : Date) (m : DateTime) (is : IsMomentOf d m) (low : 1000 ≤ d.year) where
  long : 100 ≤ d.year
  long = omega (arith, low)

  printed_moment : IsMoment (stamp m d.year is.year long) m
  printed_moment = record {
    year = is.year;
    month = refl;
    day = refl;
    hour = refl;
    minute = refl;
    second = refl;
    whole = is.whole;
  }

  pub dated_gives : Gives (dated_piece m) (Expires m)
  unfolding name_of trim_start trim_end chars encode
  dated_gives = record {
    named = refl;
    says = (
      date_text m,
      value_cut (codes " Expires") (date_text m) (date_text m) refl (trim-printed m d.year is.year long),
      (stamp m d.year is.year long, printed_date m d.year is.year long, printed_moment),
    );
  }

  pub dated_clean : IsClean (dated_piece m)
  dated_clean =
      quiet_is_clean (dated_piece m)
      (quiet_join (codes " Expires=") (date_text m) refl (printed_quiet m d.year is.year long))
