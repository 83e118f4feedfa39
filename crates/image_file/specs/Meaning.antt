-- What the fields of a bare image mean.
use Rattle.image_file.specs.declared.bare.Bare.TheInside.{Inside}
use Rattle.image_file.specs.Bare.{BareContent, IsBareContent}

abbrev pub image_of : Inside → BareContent
image_of b = record { max_locals = b.max_locals; max_stack = b.max_stack; code = b.code.items }

-- they are those of an image
abbrev pub IsKept : Inside → Type 0
IsKept b = IsBareContent (image_of b)
