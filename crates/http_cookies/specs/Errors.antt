-- The errors of the map and of its values, as the errors of this crate.
use Rattle.http_header.specs.declared.map.HeaderMapError.{HeaderMapError}
use Rattle.http_header.specs.declared.map.HeaderMapError.TheVariants.{MaxSizeReached, OutOfMemory as NoMapMemory}
use Rattle.http_header.specs.declared.value.HeaderValueError.{HeaderValueError}
use Rattle.http_header.specs.declared.value.HeaderValueError.TheVariants.{Invalid, OutOfMemory as NoValueMemory}
use Rattle.http_cookies.specs.declared.error.PutError.{PutError}
use Rattle.http_cookies.specs.declared.error.PutError.TheVariants.{Value, Full, OutOfMemory}

abbrev pub value_error : HeaderValueError → PutError
value_error Invalid = Value
value_error NoValueMemory = OutOfMemory

abbrev pub map_error : HeaderMapError → PutError
map_error MaxSizeReached = Full
map_error NoMapMemory = OutOfMemory
