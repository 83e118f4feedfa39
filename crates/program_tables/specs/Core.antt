-- The classes that the virtual machine itself knows. They stand first, in this order.
use Rattle.std.specs.Prelude.{ℕ, Bool, List, [], ◌∷◌, codes}
use Rattle.class_pool.specs.declared.class.ClassFile.{ClassFile}
use Rattle.class_lookup.specs.Parts.{same_text, name_of}

-- how many they are: the number of the first class of a file
abbrev pub core_count : ℕ
core_count = 23

abbrev pub core_names : List (List ℕ)
core_names =
    codes "java/lang/Object"
    ∷ codes "java/io/Serializable"
    ∷ codes "java/lang/Cloneable"
    ∷ codes "java/lang/String"
    ∷ codes "java/lang/Throwable"
    ∷ codes "java/lang/Exception"
    ∷ codes "java/lang/RuntimeException"
    ∷ codes "java/lang/Error"
    ∷ codes "java/lang/ArithmeticException"
    ∷ codes "java/lang/ArrayStoreException"
    ∷ codes "java/lang/ClassCastException"
    ∷ codes "java/lang/IllegalArgumentException"
    ∷ codes "java/lang/IllegalStateException"
    ∷ codes "java/lang/IndexOutOfBoundsException"
    ∷ codes "java/lang/ArrayIndexOutOfBoundsException"
    ∷ codes "java/lang/NegativeArraySizeException"
    ∷ codes "java/lang/NullPointerException"
    ∷ codes "java/lang/LinkageError"
    ∷ codes "java/lang/IncompatibleClassChangeError"
    ∷ codes "java/lang/VirtualMachineError"
    ∷ codes "java/lang/OutOfMemoryError"
    ∷ codes "java/lang/StackOverflowError"
    ∷ codes "jop/Io"
    ∷ []

-- the class that calls the initialization methods and main; it stands last
abbrev pub boot_name : List ℕ
boot_name = codes "jop/Boot"

-- its method
abbrev pub boot_method : List ℕ
boot_method = codes "boot"

abbrev pub boot_descriptor : List ℕ
boot_descriptor = codes "()V"

abbrev pub io_name : List ℕ
io_name = codes "jop/Io"

abbrev pub is_boot : ClassFile → Bool
is_boot c = same_text (name_of c) boot_name

abbrev pub is_io : ClassFile → Bool
is_io c = same_text (name_of c) io_name

-- The classes of the errors that instructions raise, in the order of their objects: ArithmeticException, ArrayIndexOutOfBoundsException, ArrayStoreException,
-- ClassCastException, IncompatibleClassChangeError, NegativeArraySizeException, NullPointerException, OutOfMemoryError, StackOverflowError.
abbrev pub raised_classes : List ℕ
raised_classes = 8 ∷ 14 ∷ 9 ∷ 10 ∷ 18 ∷ 15 ∷ 16 ∷ 20 ∷ 21 ∷ []
