-- The numbers by which words, outcomes and refusals cross to C (own: docs/DEFINITIONS.md).
use Rattle.std.specs.Prelude.{ℕ, ℤ, pos, ◌+◌, ◌^◌, ◌-ℤ◌, ◌==◌, if◌then◌else◌, Option, Some, None, min, false, true}
use Rattle.store_parts.specs.declared.error.CookieError.{CookieError}
use Rattle.store_parts.specs.declared.error.CookieError.TheVariants as cause
use Rattle.cookie_store.specs.declared.action.StoreAction.{StoreAction}
use Rattle.cookie_store.specs.declared.action.StoreAction.TheVariants as action
use Rattle.cookie_client.specs.declared.outcome.LineEnd.{LineEnd}
use Rattle.cookie_client.specs.declared.outcome.LineEnd.TheVariants as end
use Rattle.cookie_client.specs.declared.outcome.SessionError.{SessionError}
use Rattle.cookie_client.specs.declared.outcome.SessionError.TheVariants as session
use Rattle.cookies_txt.specs.declared.readers.Reader.TheVariants as reader
use Rattle.fonnalich_c.specs.declared.refusal.Refusal.{Refusal}
use Rattle.fonnalich_c.specs.declared.refusal.Refusal.TheVariants as refusal
use Rattle.fonnalich_c.specs.declared.started.Start.{Start}
use Rattle.fonnalich_c.specs.declared.started.Start.TheVariants as start
use Rattle.fonnalich_c.specs.declared.word.Word.{Word}
use Rattle.fonnalich_c.specs.declared.word.Word.TheVariants.{List, Load, Rules, Ask, Keep, By}
use Rattle.fonnalich_c.specs.declared.word.Task.TheVariants.{Receive, Header, Save, Restart, SaveAll, Reload, Count}
use Rattle.fonnalich_c.specs.declared.word.Task.TheVariants.{List as Listing, Clear, Import, Export}
use Rattle.fonnalich_c.specs.declared.word.ByList.TheVariants as by

-- the word that hands out the answer that had no room
abbrev pub answer_word : ℕ
answer_word = 0

-- the word that takes the lines of an answer to a request that is started so
abbrev pub receive_word : Start → Word
receive_word start = Ask (Receive start)

-- what the other words do
abbrev pub word_of : ℕ → Option Word
word_of number =
    if number == 1 then Some List
    else if number == 2 then Some Load
    else if number == 3 then Some (receive_word start.User)
    else if number == 4 then Some (Ask (Header start.User))
    else if number == 5 then Some (Ask Save)
    else if number == 6 then Some (Ask Restart)
    else if number == 7 then Some Rules
    else if number == 8 then Some (Ask SaveAll)
    else if number == 9 then Some (Ask Reload)
    else if number == 10 then Some (Ask Count)
    else if number == 11 then Some (Ask Listing)
    else if number == 12 then Some (Ask Clear)
    else if number == 13 then Some (Ask (Header start.Page))
    else if number == 14 then Some (Ask (Header start.Navigation))
    else if number == 15 then Some Keep
    else if number == 16 then Some (By by.Begin)
    else if number == 17 then Some (By by.Load)
    else if number == 18 then Some (By by.Suffix)
    else if number == 19 then Some (By by.Shard)
    else if number == 20 then Some (By by.ShardOfUrl)
    else if number == 21 then Some (Ask Import)
    else if number == 22 then Some (Ask (Export reader.Curl true))
    else if number == 23 then Some (Ask (Export reader.Wget true))
    else if number == 24 then Some (Ask (Export reader.Python true))
    else if number == 25 then Some (Ask (Export reader.Curl false))
    else if number == 26 then Some (Ask (Export reader.Wget false))
    else if number == 27 then Some (Ask (Export reader.Python false))
    else None

-- ---- what became of a line

abbrev pub action_number : StoreAction → ℕ
action_number action.Inserted = 0
action_number action.ExpiredExisting = 1
action_number action.UpdatedExisting = 2

abbrev pub error_number : CookieError → ℕ
error_number cause.NonHttpScheme = 10
error_number cause.NonRelativeScheme = 11
error_number cause.DomainMismatch = 12
error_number cause.Expired = 13
error_number cause.Parse = 14
error_number cause.PublicSuffix = 15
error_number cause.UnspecifiedDomain = 16
error_number cause.OutOfMemory = 17

abbrev pub end_number : LineEnd → ℕ
end_number (end.Stored action) = action_number action
end_number end.NotText = 3
end_number end.HostPrefix = 4
end_number (end.Refused cause) = error_number cause

-- ---- why a call answers no text

-- memory was refused at this line; lines past 2^40 are told as that one
abbrev pub stopped_number : ℕ → ℤ
stopped_number line = pos 0 -ℤ pos (100 + min line (2 ^ 40))

abbrev pub refusal_number : Refusal → ℤ
refusal_number refusal.Memory = pos 0 -ℤ pos 1
refusal_number refusal.Word = pos 0 -ℤ pos 2
refusal_number refusal.NoClient = pos 0 -ℤ pos 3
refusal_number refusal.List = pos 0 -ℤ pos 4
refusal_number refusal.Moment = pos 0 -ℤ pos 5
refusal_number refusal.Url = pos 0 -ℤ pos 6
refusal_number refusal.Saved = pos 0 -ℤ pos 7
refusal_number refusal.Year = pos 0 -ℤ pos 8
refusal_number refusal.Read = pos 0 -ℤ pos 9
refusal_number refusal.Key = pos 0 -ℤ pos 10
refusal_number refusal.Command = pos 0 -ℤ pos 11
refusal_number refusal.EmptyName = pos 0 -ℤ pos 12
refusal_number refusal.Expiry = pos 0 -ℤ pos 13
refusal_number refusal.TooLong = pos 0 -ℤ pos 14
refusal_number refusal.Nonces = pos 0 -ℤ pos 15
refusal_number refusal.Host = pos 0 -ℤ pos 16
refusal_number refusal.Text = pos 0 -ℤ pos 17
refusal_number refusal.Pair = pos 0 -ℤ pos 18
refusal_number refusal.Site = pos 0 -ℤ pos 19
refusal_number refusal.Rules = pos 0 -ℤ pos 20
refusal_number refusal.Line = pos 0 -ℤ pos 21
refusal_number refusal.NoRule = pos 0 -ℤ pos 24
refusal_number refusal.NoList = pos 0 -ℤ pos 25
refusal_number refusal.ManyKeys = pos 0 -ℤ pos 26
refusal_number refusal.Keys = pos 0 -ℤ pos 27
refusal_number refusal.KeyEnd = pos 0 -ℤ pos 28
refusal_number (refusal.Stopped line) = stopped_number line

-- what a session's refusal is told as
abbrev pub told_as : SessionError → Refusal
told_as session.EmptyName = refusal.EmptyName
told_as session.Year = refusal.Expiry
told_as session.TooLong = refusal.TooLong
told_as session.Rng = refusal.Nonces
told_as session.OutOfMemory = refusal.Memory
