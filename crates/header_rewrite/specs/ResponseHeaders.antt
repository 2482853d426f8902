-- The header fields of a reply as a step changes them. That a step names such changes is this project's own.
use Rattle.std.specs.Prelude.{ℕ, Bool, not, List, [], ◌∷◌, ◌++◌, filter, fold, slice_get, Option, Some, None, option_and_then}
use Rattle.std.specs.Str.{bytes_eq}
use Rattle.conf_validate.specs.Configuration.{Configuration, changes_at}
use Rattle.path_normal.specs.Variables.{escaped_expansion_of}
use Rattle.unit_types.specs.Text.{lowercase}
use Rattle.unit_types.specs.declared.field.Field.{Field}
use Rattle.unit_types.specs.declared.message.Reply.{Reply}
use Rattle.unit_types.specs.declared.message.Request.{Request}

-- the field has this name; the case of a name doesn't count (RFC 9110, section 5.1)
abbrev pub is_named : List ℕ → Field → Bool
is_named name field = bytes_eq (lowercase field.name) (lowercase name)

-- the fields without those of this name
abbrev pub without : List ℕ → List Field → List Field
without name fields = filter (λ field. not (is_named name field)) fields

-- the field that a change appends: its text, expanded with the request as it came; nothing where it is null
abbrev pub new_field : Request → List ℕ → Option (List ℕ) → List Field
new_field request name None = []
new_field request name (Some text) = record { name = name; value = escaped_expansion_of text request } ∷ []

-- the fields once a change is made: all of its name are dropped, and the new one stands behind the others
abbrev pub changed : Request → List Field → List ℕ × Option (List ℕ) → List Field
changed request fields change = without change.0 fields ++ new_field request change.0 change.1

-- the fields once all changes are made, one after the other
abbrev pub all_changed : Request → List (List ℕ × Option (List ℕ)) → List Field → List Field
all_changed request changes fields = fold (changed request) fields changes

-- the changes of this step, in ascending byte order of their names; none where there is no step
abbrev pub changes_of_step : Configuration → Option ℕ → List (List ℕ × Option (List ℕ))
changes_of_step conf step = changes_at (option_and_then (slice_get conf.steps) step)

-- the fields of a reply as this step changes them, with the request as it came
abbrev pub fields_of : Configuration → Option ℕ → Request → List Field → List Field
fields_of conf step request fields = all_changed request (changes_of_step conf step) fields

-- the reply with its fields changed, all else as it was
abbrev pub fielded_of : Configuration → Option ℕ → Request → Reply → Reply
fielded_of conf step request reply = record reply { fields = fields_of conf step request reply.fields }
