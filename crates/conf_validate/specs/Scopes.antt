-- What a value is judged by, beside itself.
use Rattle.conf_tree.specs.Document.{IsDocument}
use Rattle.conf_tree.specs.View.{data_of}
use Rattle.conf_validate.specs.Valid.{Context}
use Rattle.conf_validate.specs.declared.references.Scope.{Scope}

abbrev pub context_of : Scope → Context
context_of scope = record { document = data_of scope.document.now; handlers = scope.handlers.now }

abbrev pub IsScope : Scope → Type 0
IsScope scope = IsDocument (data_of scope.document.now)
