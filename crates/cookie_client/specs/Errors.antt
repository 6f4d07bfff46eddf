-- The refusals of a private jar, as a session names them (own: docs/DEFINITIONS.md).
use Rattle.cookie.specs.declared.secure.private_error.PrivateError.{PrivateError}
use Rattle.cookie.specs.declared.secure.private_error.PrivateError.TheVariants as jars
use Rattle.cookie_client.specs.declared.outcome.SessionError.{SessionError}
use Rattle.cookie_client.specs.declared.outcome.SessionError.TheVariants.{TooLong, Rng, OutOfMemory}

abbrev pub error_of : PrivateError → SessionError
error_of jars.TooLong = TooLong
error_of jars.Rng = Rng
error_of jars.OutOfMemory = OutOfMemory
