use Rattle.std.proofs.Common.{◌≡◌, ◌++◌, ◌-◌, ◌≤◌, length, take, drop}
use Rattle.std.specs.Str.Parse.{AllDigits}
use Rattle.saved_text.specs.DateReading.{digits_front}
use Rattle.saved_text.proofs.date.digits_len.Given as goal

abbrev pub invariant-loop-len : goal.invariant-loop-len
invariant-loop-len l = record {
  fits : l.len ≤ length l.text;
  digits : AllDigits 10 (take l.len l.text);
  front : digits_front l.text ≡ take l.len l.text ++ digits_front (drop l.len l.text);
}

abbrev pub decreases-loop-len : goal.decreases-loop-len
decreases-loop-len l = length l.text - l.len
